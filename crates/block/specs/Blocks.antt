-- What the functions ask that read a block's entries.
use Rattle.std.specs.Prelude.{ℕ, ◌≤◌, ◌≡◌, List, [], length}
use Rattle.std.proofs.Math.Option.{none}
use Rattle.description.specs.Standing.{most_text}
use Rattle.description.specs.Reading.{State, reading}
use Rattle.entries.specs.declared.Gathered.{Gathered}
use Rattle.entries.specs.Entering.{meant}

pub record Steppable (t : List ℕ) (q : ℕ) : Type 0 where
  pub short : length t ≤ most_text
  pub inside : q ≤ length t

-- the entries from place q to place k are read
pub record Reading (t : List ℕ) (q h k : ℕ) (g : Gathered) : Type 0 where
  pub able : Steppable t k
  pub is : reading t q (State.inside (record { header = h; cmd = none; res = none }) []) ≡ reading t k (State.inside (meant g) [])
