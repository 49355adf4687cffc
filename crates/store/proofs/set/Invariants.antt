-- Each turn puts one byte more.
use Prim.Native.Nat.{ℕ, ◌<◌}
use mathlib.Core.Path.{◌≡◌}
use lib.ListN.{length, get_or}
use Rattle.store.proofs.set.Given as goal

abbrev pub invariant-loop-byte : goal.invariant-loop-byte
invariant-loop-byte l = (length l.byte-items ≡ l.n) × ((k : ℕ) → k < l.byte-index → get_or l.byte-items k 0 ≡ l.free)
