-- Alignment: the fewest bytes behind n that make it a multiple of a.
use Rattle.std.specs.Prelude.{ℕ, ◌+◌, ◌-◌, ◌%◌, ◌≤◌, ◌≡◌, ◌⊎◌, Bool, ◌||◌, eqb}

unfoldable pub pad : ℕ → ℕ → ℕ
pad a n = (a - n % a) % a

-- the alignments that there are
abbrev pub Aligned : ℕ → Type 0
Aligned a = (a ≡ 1) ⊎ ((a ≡ 2) ⊎ ((a ≡ 4) ⊎ (a ≡ 8)))

-- the same as a test
abbrev pub alignment : ℕ → Bool
alignment a = eqb a 1 || eqb a 2 || eqb a 4 || eqb a 8

-- what rounding up asks and tells
pub record Roundable (a x : ℕ) : Type 0 where
  pub aligned : Aligned a
  pub small : x ≤ 1000000000

pub record Rounded (a x r : ℕ) : Type 0 where
  pub is : r ≡ x + pad a x
  pub small : r ≤ x + 7
