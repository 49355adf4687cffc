-- What a writer answers: the bytes written and the next counter, or a refusal's number and place.
use Rattle.std.specs.Prelude.{ℕ}

pub data Writing : Type 0 where
  Bytes : ℕ → ℕ → Writing
  Refused : ℕ → ℕ → Writing
