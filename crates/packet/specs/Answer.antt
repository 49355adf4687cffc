-- Answers (document 01, 'What reading and writing return'), for every input: with that document's number and values for each case,
-- and with the lent table or output as the call leaves it.
use Rattle.std.specs.Prelude.{◌≡◌, ℕ, ◌*◌, ◌<◌, ◌≤◌, min, Bool, true, cond, not, ◌&&◌, List, length, nat_lt}
use Rattle.std.proofs.lemmas.List.Edits.{sets}
use Rattle.layout.specs.Walk.{Out, Out.list, Out.refused}
use Rattle.packet.specs.declared.Counter.{Counter}
use Rattle.packet.specs.Reading.{Reading, Reading as R}
use Rattle.packet.specs.Writing.{Writing, Writing as W}
use Rattle.packet.specs.Message.{Msg}

-- neither the setting nor the counter is refused with 1
pub record Ready (sound held : Bool) : Type 0 where
  pub setting : sound ≡ true
  pub counter : held ≡ true

---- The numbers and values of an answer ----------------------------------------------------------------------------------------

-- a reader's: the refusal's number, 0 where it read; the row count, or the refusal's place
abbrev pub read_number : Reading → ℕ
read_number (R.Rows k c) = 0
read_number (R.Refused n p) = n

abbrev pub read_value : Reading → ℕ
read_value (R.Rows k c) = k
read_value (R.Refused n p) = p

-- the state that is left of the state c: a refusal leaves it
abbrev pub read_state : Counter → Reading → Counter
read_state c (R.Rows k d) = d
read_state c (R.Refused n p) = c

-- a writer's: the refusal's number, 0 where it wrote; the bytes written, or the refusal's place
abbrev pub write_number : Writing → ℕ
write_number (W.Bytes k c) = 0
write_number (W.Refused n p) = n

abbrev pub write_value : Writing → ℕ
write_value (W.Bytes k c) = k
write_value (W.Refused n p) = p

-- the counter that follows the first counter c: a refusal leaves it
abbrev pub write_counter : ℕ → Writing → ℕ
write_counter c (W.Bytes k d) = d
write_counter c (W.Refused n p) = c

---- From what was judged to the answer -----------------------------------------------------------------------------------------

-- What is judged of an input of n bytes, of which the walk gives w: 1 where the setting is not sound, then 2 for too many bytes
unfoldable pub bounded : (sound : Bool) (most n : ℕ) → Out Msg → Out Msg
bounded sound most n w = cond (not sound) (refused 1 0) (cond (nat_lt most n) (refused 2 0) w)

-- the answer, and the lent numbers behind the call
pub record Answer (E : Type 0) : Type 0 where
  pub answer : E
  pub lent : List ℕ

-- what a contract says of a call: it answers r, and leaves the lent numbers at `left`
pub record Gives {E : Type 0} (a : Answer E) (r : E) (left : List ℕ) : Type 0 where
  pub answer : r ≡ a.answer
  pub lent : left ≡ a.lent

-- a refusal changes nothing
abbrev pub read_refused : List ℕ → ℕ → ℕ → Answer Reading
read_refused rows n p = record { answer = R.Refused n p; lent = rows }

abbrev pub write_refused : List ℕ → ℕ → ℕ → Answer Writing
write_refused out n p = record { answer = W.Refused n p; lent = out }

module _ {R E : Type 0} where
  -- Refused as judged; else 4 at 0 if the lent numbers are too few; else accepted, with the numbers to be told at the front of the lent ones.
  -- Those behind are unchanged, and a refusal changes none
  unfoldable pub settled : (ℕ → ℕ → E) → (List R → E) → (List R → Bool) → (List R → List ℕ) → List ℕ → Out R → Answer E
  settled refuse accept few told lent (refused n p) = record { answer = refuse n p; lent = lent }
  settled refuse accept few told lent (list xs) =
      cond (few xs) (record { answer = refuse 4 0; lent = lent }) (record { answer = accept xs; lent = sets lent 0 (told xs) })

-- fewer than five numbers for each row are too few
abbrev pub few_numbers : List ℕ → List Msg → Bool
few_numbers rows ms = nat_lt (length rows) (5 * length ms)

-- a reader with these rows and this state for its messages. A state that is not valid is refused with 1, whatever was judged
abbrev pub answered : (List Msg → List ℕ) → (List Msg → Counter) → List ℕ → (held : Bool) → Out Msg → Answer Reading
answered table state rows held o =
    settled R.Refused (λ ms. R.Rows (length ms) (state ms)) (few_numbers rows) table rows (cond held o (refused 1 0))

-- What it is for a read to be accepted with k rows, and to leave the state d; `Whole ms` says that the input holds the messages ms
pub record Accepted (Fine : Type 0) (Whole : List Msg → Type 0) (state : List Msg → Counter) (numbers k : ℕ) (d : Counter) : Type 0 where
  pub fine : Fine
  pub messages : List Msg
  pub whole : Whole messages
  pub room : 5 * length messages ≤ numbers
  pub count : k ≡ length messages
  pub left : d ≡ state messages

-- the output is too small, or would exceed the most bytes
abbrev pub few_bytes : ℕ → List ℕ → List ℕ → Bool
few_bytes most out bs = nat_lt (min (length out) most) (length bs)

-- a writer of at most so many bytes, with this next counter
abbrev pub stored : (most next : ℕ) → List ℕ → Out ℕ → Answer Writing
stored most next out = settled W.Refused (λ bs. W.Bytes (length bs) next) (few_bytes most out) (λ bs. bs) out

-- Before that a writer refuses: 1; 2; 3 at i, the least index of a length that does not fit, where i is below the number n of lengths
unfoldable pub weighed : (sound held mismatch : Bool) (i n : ℕ) → List ℕ → Out ℕ
weighed sound held mismatch i n bs =
    cond (not (sound && held)) (refused 1 0) (cond mismatch (refused 2 0) (cond (nat_lt i n) (refused 3 i) (list bs)))

-- n bytes have no room
pub data NoRoom (most room n : ℕ) : Type 0 where
  small : room < n → NoRoom most room n
  long : most < n → NoRoom most room n
