-- What the functions about one row ask and tell: of a message of the input t, whose counter has w bytes, read in direction d.
use Rattle.std.specs.Prelude.{ℕ, ◌+◌, ◌<◌, ◌≤◌, ◌≡◌, List, length}
use Rattle.std.proofs.lemmas.List.Edits.{sets}
use Rattle.packet.specs.declared.Counter.{Counter}
use Rattle.packet.specs.declared.Found.{Found}
use Rattle.packet.specs.Counter.{advance}
use Rattle.packet.specs.Limit.{most_bytes}
use Rattle.packet.specs.Row.{row, numbers}
use Rattle.packet.specs.Seen.{message}
use Rattle.rows.specs.Counters.{Sane, Counted}

pub record Rowable (d w : ℕ) (t : List ℕ) (c : Counter) (m : Found) : Type 0 where
  pub way : d < 2
  pub some : 0 < m.len
  pub small : length t ≤ most_bytes
  pub inside : m.at + m.len ≤ length t
  pub counted : Counted w c m.ctr

-- the row goes to place i of n numbers
pub record Putting (d w : ℕ) (t : List ℕ) (c : Counter) (m : Found) (i n : ℕ) : Type 0 where
  pub message : Rowable d w t c m
  pub room : i + 5 ≤ n

pub record Put (d w : ℕ) (t : List ℕ) (c : Counter) (m : Found) (i : ℕ) (old new : List ℕ) (r : Counter) : Type 0 where
  pub rows : new ≡ sets old i (numbers (row d w c (message t m)))
  pub state : r ≡ advance w 1 c m.ctr
  pub sane : Sane w r
  pub room : i + 5 ≤ length new
