-- What putting the text of rows into a lent output asks.
use Rattle.std.specs.Prelude.{ℕ, ◌*◌, ◌≤◌, List, length}
use Rattle.packet.specs.Reading.{Reading, Reading as R}

-- an output that holds the text of any answer with these rows
pub record Roomy (out rows : List ℕ) : Type 0 where
  pub lines : 11 * length rows ≤ length out
  pub refusal : 30 ≤ length out

-- a table for every input that the program reads, 2,048 rows, and an output for its text
pub record Prepared (out rows : List ℕ) : Type 0 where
  pub table : 10240 ≤ length rows
  pub room : 11 * length rows ≤ length out

-- an answer tells no more rows than the table holds
abbrev pub Within : Reading → List ℕ → Type 0
Within (R.Rows k c) rows = 5 * k ≤ length rows
Within (R.Refused n p) rows = Unit {0}

pub record Tellable (out rows : List ℕ) (a : Reading) : Type 0 where
  pub roomy : Roomy out rows
  pub within : Within a rows
