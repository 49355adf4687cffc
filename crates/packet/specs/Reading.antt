-- What a reader answers: the row count and the state behind the rows, or a refusal's number and place.
use Rattle.std.specs.Prelude.{ℕ}
use Rattle.packet.specs.declared.Counter.{Counter}

pub data Reading : Type 0 where
  Rows : ℕ → Counter → Reading
  Refused : ℕ → ℕ → Reading
