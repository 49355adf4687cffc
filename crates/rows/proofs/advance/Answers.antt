use Rattle.rows.proofs.CounterLaws.{advance-none, advance-some}
use Rattle.rows.proofs.advance.Goals as goal

pub returns-then-width-eq0 : goal.returns-then-width-eq0
returns-then-width-eq0 c = advance-none c.requires c.if-width-eq0.true

pub returns : goal.returns
returns c = advance-some c.requires c.if-width-eq0.false c.after-expected.ensures
