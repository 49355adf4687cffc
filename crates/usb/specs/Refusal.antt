-- When a call is refused, with which number and place (document 01, the table of refusals and the order below it). Nothing here reads,
-- and of writing there is only the length that 4 speaks of.
use Rattle.std.specs.Prelude.{ℕ, ◌+◌, ◌%◌, ◌<◌, ◌≤◌, min, ◌≡◌, Bool, List, length, drop}
use Rattle.layout.specs.Field.{says, Name.LEN}
use Rattle.layout.specs.Rule.{Leftmost}
use Rattle.packet.specs.declared.Counter.{Counter}
use Rattle.packet.specs.Counter.{valid}
use Rattle.packet.specs.Row.{behind}
use Rattle.packet.specs.Packets.{packets}
use Rattle.packet.specs.Answer.{Ready, Accepted}
use Rattle.packet.specs.Limit.{most_bytes}
use Rattle.packet.specs.Refusal as R
use Rattle.usb.specs.declared.Setting.{Setting}
use Rattle.usb.specs.Setting.{fields, H, W, whole, sound}
use Rattle.usb.specs.Layout.{Laid, Transfer}
use Rattle.usb.specs.Writing.{write}

---- The reader -----------------------------------------------------------------------------------------------------------------

-- a header whose LEN is n, and not zero, at place q, where the bytes bs are left
pub record Header (s : Setting) (q : ℕ) (bs : List ℕ) (n : ℕ) : Type 0 where
  pub enough : H s ≤ length bs
  pub uncut : q % s.datapacket + H s ≤ s.datapacket
  pub first : s.packing ≡ 0 → q % s.datapacket ≡ 0
  pub len : says LEN (fields s) bs 0 ≡ n
  pub some : 0 < n

-- its message, tail included, runs past its data packet (single, multiple), or past the transfer
pub data Past (s : Setting) (q : ℕ) (bs : List ℕ) (n : ℕ) : Type 0 where
  leaves : s.packing < 2 → s.datapacket < q % s.datapacket + whole s n → Past s q bs n
  ends : length bs < whole s n → Past s q bs n

-- the rule that is broken at place q
pub data Broken (s : Setting) (q : ℕ) (bs : List ℕ) : ℕ → Type 0 where
  over : (n : ℕ) → Header s q bs n → s.longest < n → Broken s q bs 3
  past : (n : ℕ) → Header s q bs n → n ≤ s.longest → Past s q bs n → Broken s q bs 5
  -- a single data packet is shorter than H, or has LEN 0
  short : s.packing ≡ 0 → q % s.datapacket ≡ 0 → 0 < length bs → min s.datapacket (length bs) < H s → Broken s q bs 6
  zeroed : s.packing ≡ 0 → q % s.datapacket ≡ 0 → H s ≤ length bs → says LEN (fields s) bs 0 ≡ 0 → Broken s q bs 6

-- neither the setting nor the state is refused
abbrev pub Fine : Setting → Counter → Type 0
Fine s c = Ready (sound s) (valid (W s) c)

-- the leftmost rule that a transfer breaks
abbrev pub Breaks : Setting → List ℕ → (n p : ℕ) → Type 0
Breaks s t = Leftmost (λ p ms. Laid s p (drop p t) 0 ms t) (λ p n. Broken s p (drop p t) n)

-- a transfer t, read with the state c into a table of so many numbers
abbrev pub ReadRefusal : Setting → List ℕ → Counter → (numbers n p : ℕ) → Type 0
ReadRefusal s t c = R.ReadRefusal (sound s) (W s) most_bytes (Breaks s t) (λ ms. Transfer s ms t) t c

-- such a read is accepted with k rows, and leaves the state d
abbrev pub ReadAccept : Setting → List ℕ → Counter → ℕ → ℕ → Counter → Type 0
ReadAccept s t c numbers k d = Accepted (Fine s c) (λ ms. Transfer s ms t) (behind (W s) c) numbers k d

---- The writer -----------------------------------------------------------------------------------------------------------------

-- a packet's length that the writer takes
pub record Fit (s : Setting) (n : ℕ) : Type 0 where
  pub least : 0 < n
  pub most : n ≤ s.longest
  pub within : s.packing < 2 → whole s n ≤ s.datapacket

pub data Unfit (s : Setting) (n : ℕ) : Type 0 where
  empty : n ≡ 0 → Unfit s n
  over : s.longest < n → Unfit s n
  wide : s.packing < 2 → s.datapacket < whole s n → Unfit s n

-- packets of the lengths ns in the joined bytes bs, first counter c, fill byte, whether to fill up, an output of so many bytes
abbrev pub WriteRefusal : Setting → (bs ns : List ℕ) (c fill : ℕ) (full : Bool) (bytes n p : ℕ) → Type 0
WriteRefusal s bs ns c fill full = R.WriteRefusal (sound s) (W s) most_bytes (Fit s) (Unfit s) (length (write s fill full 0 c (packets ns bs))) bs ns c

-- such a write is accepted with k bytes and the next counter d
abbrev pub WriteAccept : Setting → (bs ns : List ℕ) (c fill : ℕ) (full : Bool) (bytes k d : ℕ) → Type 0
WriteAccept s bs ns c fill full = R.WriteAccept (sound s) (W s) most_bytes (Fit s) (length (write s fill full 0 c (packets ns bs))) bs ns c
