-- Filling: the rows of what is read, put into a table, and the state behind them. The same for every layout.
use Rattle.std.specs.Prelude.{ℕ, ◌+◌, ◌*◌, ◌≤◌, ◌≡◌, List, length}
use Rattle.std.proofs.lemmas.List.Edits.{sets}
use Rattle.layout.specs.Walk.{Out, Out.list, Out.refused}
use Rattle.packet.specs.declared.Counter.{Counter}
use Rattle.packet.specs.Message.{Msg}
use Rattle.packet.specs.Row.{table, behind}
use Rattle.rows.specs.Counters.{Sane}

-- a table and the state behind it; none where what is read is refused
pub data Filled : Type 0 where
  filled : List ℕ → Counter → Filled
  none : Filled

-- the numbers told of what is read, put from i on, and the state behind it
abbrev pub fill_of : (List Msg → List ℕ) → (List Msg → Counter) → List ℕ → ℕ → Out Msg → Filled
fill_of told state rows i (list ms) = filled (sets rows i (told ms)) (state ms)
fill_of told state rows i (refused n q) = none

-- the rows of messages that each carry a counter of w bytes, read in direction d with the state c
abbrev pub filling : ℕ → ℕ → List ℕ → ℕ → Counter → Out Msg → Filled
filling d w rows i c o = fill_of (table d w c) (behind w c) rows i o

-- it is not refused, and n numbers have room for it from i on
abbrev pub Room : ℕ → ℕ → Out Msg → Type 0
Room n i (list ms) = i + 5 * length ms ≤ n
Room n i (refused a q) = ⊥

-- the rows up to here are written into a table of n numbers, the next goes to i, and `now` is ahead
pub record Filling (d w : ℕ) (whole : Filled) (n : ℕ) (now : Out Msg) (i : ℕ) (c : Counter) (rows : List ℕ) : Type 0 where
  pub sane : Sane w c
  pub long : length rows ≡ n
  pub room : Room n i now
  pub same : whole ≡ filling d w rows i c now
