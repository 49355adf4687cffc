-- When a call is refused, with which number and place (document 01, the table of refusals and the order below it). Nothing here reads,
-- and of writing there is only where packets end (3) and the frame's length (4).
use Rattle.std.specs.Prelude.{ℕ, ◌+◌, ◌*◌, ◌-◌, ◌%◌, ◌<◌, ◌≤◌, ◌≡◌, false, List, [], length, get_or}
use Rattle.layout.specs.Field.{says, Name.NAX, Name.LEN}
use Rattle.packet.specs.declared.Counter.{Counter}
use Rattle.packet.specs.Message.{Msg}
use Rattle.packet.specs.Counter.{valid, holds, Exceeds, later}
use Rattle.packet.specs.Packets.{Matched, Mismatch, packets}
use Rattle.packet.specs.Answer.{Ready, Accepted, NoRoom}
use Rattle.packet.specs.Limit.{most_bytes}
use Rattle.flexray.specs.declared.Setting.{Setting}
use Rattle.flexray.specs.Setting.{fields, H, L, W, start, moved, sound}
use Rattle.flexray.specs.Layout.{Evened, Sized, Laid, Frame}
use Rattle.flexray.specs.Row.{frame_state}
use Rattle.flexray.specs.Writing.{Span, spans, frame}

---- The reader -----------------------------------------------------------------------------------------------------------------

-- neither the setting nor the state is refused
abbrev pub Fine : Setting → Counter → Type 0
Fine s c = Ready (sound s) (valid (W s) c)

-- the rule that is broken at a place of a frame of right length and node
pub data Broken (s : Setting) (t : List ℕ) : ℕ → ℕ → Type 0 where
  -- the first LEN is 0
  zeroed : 0 < L s → says LEN (fields s) t 0 ≡ 0 → Broken s t 6 0
  -- the first packet runs past the frame
  past : (n : ℕ) → 0 < L s → says LEN (fields s) t 0 ≡ n → 0 < n → length t < H s + n → Broken s t 5 0
  -- a later packet does, behind packets that are laid out up to place e: 5 at its LEN
  behind : (n e : ℕ) (cs : List ℕ) (ms : List Msg) → Laid s e cs ms t → get_or t (start s.align e - 1) 0 ≡ n → 0 < n
      → length t < start s.align e + n → Broken s t 5 (start s.align e - 1)

-- a frame t, read with the state c into a table of so many numbers
pub data ReadRefusal (s : Setting) (t : List ℕ) (c : Counter) (numbers : ℕ) : ℕ → ℕ → Type 0 where
  setting : sound s ≡ false → ReadRefusal s t c numbers 1 0
  counter : 0 < c.known → Exceeds (W s) c.expected → ReadRefusal s t c numbers 1 0
  odd : Fine s c → length t % 2 ≡ 1 → ReadRefusal s t c numbers 8 0
  long : Fine s c → s.ceiling < length t → ReadRefusal s t c numbers 8 0
  short : Fine s c → Evened s t → length t < H s + 1 → ReadRefusal s t c numbers 6 0
  node : Fine s c → Evened s t → H s + 1 ≤ length t → (says NAX (fields s) t 0 ≡ s.node → ⊥) → ReadRefusal s t c numbers 7 0
  rule : {n p : ℕ} → Fine s c → Sized s t → Broken s t n p → ReadRefusal s t c numbers n p
  room : Fine s c → (ms : List Msg) → Frame s ms t → numbers < 5 * length ms → ReadRefusal s t c numbers 4 0

-- such a read is accepted with k rows, and leaves the state d
abbrev pub ReadAccept : Setting → List ℕ → Counter → ℕ → ℕ → Counter → Type 0
ReadAccept s t c numbers k d = Accepted (Fine s c) (λ ms. Frame s ms t) (frame_state (W s) c) numbers k d

---- The writer -----------------------------------------------------------------------------------------------------------------

-- a packet's length and end that the writer takes
pub record Fit (s : Setting) (x : Span) : Type 0 where
  pub least : 0 < x.long
  pub most : x.end ≤ s.ceiling

pub data Unfit (s : Setting) (x : Span) : Type 0 where
  empty : x.long ≡ 0 → Unfit s x
  over : s.ceiling < x.end → Unfit s x

abbrev pub Willing : Setting → ℕ → Type 0
Willing s c = Ready (sound s) (holds (W s) c)

-- as many packets as a frame takes: some, and one without LEN
pub record Counted (s : Setting) (ns : List ℕ) : Type 0 where
  pub some : 0 < length ns
  pub one : L s ≡ 0 → length ns ≡ 1

-- the packet at an index
abbrev pub no_span : Span
no_span = record { long = 0; end = 0 }

abbrev pub span : Setting → List ℕ → ℕ → Span
span s ns i = get_or (spans s ns) i no_span

-- packets of the lengths ns in the joined bytes bs, first counter c, fill byte, an output of so many bytes
pub data WriteRefusal (s : Setting) (bs ns : List ℕ) (c fill bytes : ℕ) : ℕ → ℕ → Type 0 where
  setting : sound s ≡ false → WriteRefusal s bs ns c fill bytes 1 0
  counter : Exceeds (W s) c → WriteRefusal s bs ns c fill bytes 1 0
  mismatch : Willing s c → Mismatch ns bs → WriteRefusal s bs ns c fill bytes 2 0
  empty : Willing s c → ns ≡ [] → WriteRefusal s bs ns c fill bytes 2 0
  several : Willing s c → L s ≡ 0 → (length ns ≡ 1 → ⊥) → WriteRefusal s bs ns c fill bytes 2 0
  -- the least index
  unfit : {i : ℕ} → Willing s c → Matched ns bs → Counted s ns → i < length ns → ((j : ℕ) → j < i → Fit s (span s ns j))
      → Unfit s (span s ns i) → WriteRefusal s bs ns c fill bytes 3 i
  room : Willing s c → Matched ns bs → Counted s ns → ((j : ℕ) → j < length ns → Fit s (span s ns j))
      → NoRoom most_bytes bytes (length (frame s fill c (packets ns bs))) → WriteRefusal s bs ns c fill bytes 4 0

-- what it is for such a write to be accepted with k bytes and the next counter d
pub record WriteAccept (s : Setting) (bs ns : List ℕ) (c fill bytes k d : ℕ) : Type 0 where
  pub willing : Willing s c
  pub matched : Matched ns bs
  pub counted : Counted s ns
  pub fit : (j : ℕ) → j < length ns → Fit s (span s ns j)
  pub room : length (frame s fill c (packets ns bs)) ≤ bytes
  pub most : length (frame s fill c (packets ns bs)) ≤ most_bytes
  pub count : k ≡ length (frame s fill c (packets ns bs))
  pub next : d ≡ later (W s) (moved (length ns)) c
