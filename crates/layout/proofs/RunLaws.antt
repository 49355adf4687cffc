-- Bytes that are put one run behind another.
use Prim.Native.Nat.{ℕ, suc, ◌+◌}
use native.Mathlib.Nat.{add-zero, add-suc, suc-add}
use mathlib.Core.Path.{◌≡◌, ◌∙◌}
use mathlib.Core.List.{List, [], ◌∷◌, ◌++◌}
use lib.ListN.{length, set}
use lib.Seq.{sets}

pub sets-append : (vs ws xs : List ℕ) (i : ℕ) → sets xs i (vs ++ ws) ≡ sets (sets xs i vs) (i + length vs) ws
sets-append [] ws xs i = rw add-zero
sets-append (v ∷ vs) ws xs i = sets-append vs ws (set xs i v) (suc i) ∙ rw (add-suc i (length vs), ← suc-add i (length vs))
