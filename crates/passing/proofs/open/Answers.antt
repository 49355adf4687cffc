-- A name goes on top of the others.
use native.Mathlib.Omega.{arith}
use Rattle.passing.proofs.PassingLaws.{open_on}
use Rattle.passing.proofs.open.Goals as goal

pub returns : goal.returns
returns c = rw c.hold.ensures (open_on c.requires.1 c.requires.0 c.in_ok-word.ensures (omega arith))
