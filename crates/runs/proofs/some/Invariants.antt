-- What the bytes say that were tested.
use Rattle.std.proofs.Common.{◌≡◌, ℕ, ◌<◌, get_or, true, false}
use Rattle.runs.proofs.some.Given as goal

abbrev pub invariant-loop-b : goal.invariant-loop-b
invariant-loop-b g l =
    (l.found ≡ false → (i : ℕ) → i < l.b-index → goal.F-post g l.test (get_or l.bytes i 0) false)
    × (l.found ≡ true → (i : ℕ) × (i < l.b-index) × goal.F-post g l.test (get_or l.bytes i 0) true)
