-- The lent state (document 01, 'What to write where'): what a caller is told of a reading. The state that is left is `readState`.
use Rattle.std.specs.Prelude.{ℕ, ◌≡◌, List, Result, Ok, Err}
use Rattle.packet.specs.declared.Counter.{Counter}
use Rattle.packet.specs.Reading.{Reading, Reading as R}
use Rattle.packet.specs.Answer.{Answer, read_state}
use Rattle.packet.specs.declared.Refusal.{Refusal}
use Rattle.packet.specs.Said.{number_of}

-- the row count, or a refusal's number and place
pub data Told : Type 0 where
  Rows : ℕ → Told
  Refused : ℕ → ℕ → Told

-- .. as the code says it
abbrev pub told_said : Result ℕ Refusal → Told
told_said (Ok k) = Told.Rows k
told_said (Err e) = Told.Refused (number_of e.reason) e.place

abbrev pub told_of : Reading → Told
told_of (R.Rows k c) = Told.Rows k
told_of (R.Refused n p) = Told.Refused n p

-- the refusal's number, 0 where it read; the row count, or the refusal's place
abbrev pub told_number : Told → ℕ
told_number (Told.Rows k) = 0
told_number (Told.Refused n p) = n

abbrev pub told_value : Told → ℕ
told_value (Told.Rows k) = k
told_value (Told.Refused n p) = p

-- what a contract says of a call with the state c lent: it tells r, and leaves the state at d and the lent numbers at `left`
pub record Tells (a : Answer Reading) (c : Counter) (r : Told) (d : Counter) (left : List ℕ) : Type 0 where
  pub told : r ≡ told_of a.answer
  pub state : d ≡ read_state c a.answer
  pub lent : left ≡ a.lent
