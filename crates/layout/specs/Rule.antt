-- The leftmost broken rule of an input. A layout says, by `Laid p rs`, that from the start to place p the entries rs are laid out, and by `Broken p n` that at
-- place p the rule of number n is broken.
use Rattle.std.specs.Prelude.{ℕ, List}

-- before place p, where the rule of number n is broken, all is laid out
pub record Leftmost {R : Type 0} (Laid : ℕ → List R → Type 0) (Broken : ℕ → ℕ → Type 0) (n p : ℕ) : Type 0 where
  pub entries : List R
  pub before : Laid p entries
  pub broken : Broken p n
