use Rattle.rows.proofs.CounterLaws.{gap-fresh, gap_known}
use Rattle.rows.proofs.gap.Goals as goal

pub returns-then-c-eq0 : goal.returns-then-c-eq0
returns-then-c-eq0 c = gap-fresh c.requires c.if-c-eq0.true

pub returns : goal.returns
returns c = gap_known c.requires c.if-c-eq0.false c.apart.ensures
