-- Each turn reads an entry.
use Prim.Native.Nat.{◌-◌}
use lib.ListN.{length}
use Rattle.block.specs.Blocks.{Reading}
use Rattle.block.proofs.entries.Given as goal

abbrev pub invariant-loop-sign : goal.invariant-loop-sign
invariant-loop-sign l = Reading l.t l.q l.header l.k l.g

abbrev pub decreases-loop-sign : goal.decreases-loop-sign
decreases-loop-sign l = length l.t - l.k
