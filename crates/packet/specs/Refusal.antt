-- When a call is refused, with which number and place (document 01, the table of refusals and the order below it), where each packet has a header of its own:
-- on USB and on UDP. A transport says whether its setting is sound, its counter's bytes w, the most bytes of an input or output, and its own rules. Nothing
-- here reads or writes.
use Rattle.std.specs.Prelude.{◌≡◌, ℕ, ◌*◌, ◌<◌, ◌≤◌, Bool, false, List, length, slice_index}
use Rattle.packet.specs.declared.Counter.{Counter}
use Rattle.packet.specs.Answer.{Ready, NoRoom}
use Rattle.packet.specs.Counter.{valid, holds, Exceeds, later}
use Rattle.packet.specs.Message.{Msg}
use Rattle.packet.specs.Packets.{Matched, Mismatch}

-- An input t, read with the state c into a table of so many numbers. `Breaks n p` says that the leftmost broken rule gives n at p, and `Whole ms` that the
-- input holds the messages ms
pub data ReadRefusal (sound : Bool) (w most : ℕ) (Breaks : ℕ → ℕ → Type 0) (Whole : List Msg → Type 0) (t : List ℕ) (c : Counter) (numbers : ℕ)
    : ℕ → ℕ → Type 0 where
  setting : sound ≡ false → ReadRefusal sound w most Breaks Whole t c numbers 1 0
  counter : 0 < c.known → Exceeds w c.expected → ReadRefusal sound w most Breaks Whole t c numbers 1 0
  long : Ready sound (valid w c) → most < length t → ReadRefusal sound w most Breaks Whole t c numbers 2 0
  rule : {n p : ℕ} → Ready sound (valid w c) → length t ≤ most → Breaks n p → ReadRefusal sound w most Breaks Whole t c numbers n p
  room : Ready sound (valid w c) → (ms : List Msg) → Whole ms → numbers < 5 * length ms → ReadRefusal sound w most Breaks Whole t c numbers 4 0

-- Packets of the lengths ns in the joined bytes bs, first counter c, an output of so many bytes. `Fit n` and `Unfit n` say that a packet of n bytes may be
-- written, and that it may not; what would be written is `long` bytes long
pub data WriteRefusal (sound : Bool) (w most : ℕ) (Fit Unfit : ℕ → Type 0) (long : ℕ) (bs ns : List ℕ) (c bytes : ℕ) : ℕ → ℕ → Type 0 where
  setting : sound ≡ false → WriteRefusal sound w most Fit Unfit long bs ns c bytes 1 0
  counter : Exceeds w c → WriteRefusal sound w most Fit Unfit long bs ns c bytes 1 0
  mismatch : Ready sound (holds w c) → Mismatch ns bs → WriteRefusal sound w most Fit Unfit long bs ns c bytes 2 0
  -- the least index
  unfit : {i : ℕ} → Ready sound (holds w c) → Matched ns bs → i < length ns → ((j : ℕ) → j < i → Fit (slice_index ns j))
      → Unfit (slice_index ns i)
      → WriteRefusal sound w most Fit Unfit long bs ns c bytes 3 i
  room : Ready sound (holds w c) → Matched ns bs → ((j : ℕ) → j < length ns → Fit (slice_index ns j)) → NoRoom most bytes long
      → WriteRefusal sound w most Fit Unfit long bs ns c bytes 4 0

-- what it is for such a write to be accepted with k bytes and the next counter d
pub record WriteAccept (sound : Bool) (w most : ℕ) (Fit : ℕ → Type 0) (long : ℕ) (bs ns : List ℕ) (c bytes k d : ℕ) : Type 0 where
  pub willing : Ready sound (holds w c)
  pub matched : Matched ns bs
  pub fit : (j : ℕ) → j < length ns → Fit (slice_index ns j)
  pub room : long ≤ bytes
  pub short : long ≤ most
  pub count : k ≡ long
  pub next : d ≡ later w (length ns) c
