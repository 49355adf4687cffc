-- The two tests, one behind the other.
use Rattle.entries.proofs.EntryLaws.{name-cmd, name-res}
use Rattle.entries.proofs.side_of.Goals as goal

pub returns-then-same : goal.returns-then-same
returns-then-same c = name-cmd c.args.name.now c.same.ensures c.if-same.true

pub returns-then-same-2 : goal.returns-then-same-2
returns-then-same-2 c = name-res c.args.name.now c.same.ensures c.same-2.ensures c.if-same-2.true
