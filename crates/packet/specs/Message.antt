-- A message of an input, as layouts and readers name it: where its packet starts, the packet, and its counter, 0 where it carries none.
use Rattle.std.specs.Prelude.{ℕ, List}

pub record Msg : Type 0 where
  pub at : ℕ
  pub packet : List ℕ
  pub ctr : ℕ
