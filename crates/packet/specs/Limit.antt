-- Limits (document 01): the longest transfer in bytes, and the most lengths that a writer takes.
use Rattle.std.specs.Prelude.{ℕ, ◌≤◌}

abbrev pub most_bytes : ℕ
most_bytes = 262144

abbrev pub most_lengths : ℕ
most_lengths = 4096

-- a place or a count that does not exceed the longest transfer
pub record Short (n : ℕ) : Type 0 where
  pub short : n ≤ most_bytes
