-- What a turn keeps of the count, for whatever is ahead.
use Prim.Native.Nat.{ℕ, ◌+◌}
use native.Mathlib.Omega.{arith}
use mathlib.Core.Path.{◌≡◌, refl, ap}
use mathlib.Core.List.{[], ◌∷◌}
use Rattle.layout.specs.Walk.{Out, before, Out.list, Out.refused}
use Rattle.packet.specs.Message.{Msg}
use Rattle.rows.specs.Count.{Judged.Rows}
use Rattle.rows.specs.Count.{counted}

-- one row is counted, and then the others
pub counted-before : (k : ℕ) (m : Msg) (o : Out Msg) → counted k (before (m ∷ []) o) ≡ counted (k + 1) o
counted-before k m (list ms) = ap Rows (omega arith)
counted-before k m (refused n p) = refl
