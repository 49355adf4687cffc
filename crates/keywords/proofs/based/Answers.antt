-- The first digit, and a number that is beyond the most.
use Rattle.std.proofs.Common.{arith}
use Rattle.keywords.proofs.NumberLaws.{counts, count_beyond}
use Rattle.keywords.proofs.based.Goals as goal

pub loop-b-init : goal.loop-b-init
loop-b-init c = search counts

pub returns-then-n-from : goal.returns-then-n-from
returns-then-n-from c = count_beyond c.loop-b.invariant (omega arith) c.in_ok-n.ensures.0 c.requires (omega arith)
