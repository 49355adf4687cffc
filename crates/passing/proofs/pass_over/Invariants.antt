-- Each turn reads over a word, and the name behind it where it has one.
use Prim.Native.Nat.{◌-◌}
use lib.ListN.{length}
use Rattle.passing.specs.Passing.{OnTheWay}
use Rattle.passing.proofs.pass_over.Given as goal

abbrev pub invariant-loop-names : goal.invariant-loop-names
invariant-loop-names l = OnTheWay l.t l.fn.name l.q l.names l.k

abbrev pub decreases-loop-names : goal.decreases-loop-names
decreases-loop-names l = length l.t - l.k
