-- When a call is refused, with which number and place (Ask 3, and the table of document 01). Nothing here reads, and of writing there is only the length that 4
-- speaks of.
use Rattle.std.specs.Prelude.{ℕ, ◌+◌, ◌<◌, ◌≤◌, ◌≡◌, List, length, drop}
use Rattle.layout.specs.Field.{says, Name.LEN}
use Rattle.layout.specs.Rule.{Leftmost}
use Rattle.packet.specs.declared.Counter.{Counter}
use Rattle.packet.specs.Answer.{Ready, Accepted}
use Rattle.packet.specs.Counter.{valid}
use Rattle.packet.specs.Packets.{packets}
use Rattle.packet.specs.Refusal as R
use Rattle.packet.specs.Row.{behind}
use Rattle.udp.specs.declared.Setting.{Setting}
use Rattle.udp.specs.Setting.{fields, H, W, most_datagram, sound}
use Rattle.udp.specs.Layout.{Laid, Datagram}
use Rattle.udp.specs.Writing.{write}

---- The reader -----------------------------------------------------------------------------------------------------------------

-- a header whose LEN is n, where the bytes bs are left
pub record Header (bs : List ℕ) (n : ℕ) : Type 0 where
  pub enough : H ≤ length bs
  pub len : says LEN fields bs 0 ≡ n

-- the rule that is broken where the bytes bs are left
pub data Broken (s : Setting) (bs : List ℕ) : ℕ → Type 0 where
  zeroed : Header bs 0 → Broken s bs 6
  over : (n : ℕ) → Header bs n → s.longest < n → Broken s bs 3
  -- the packet runs past the datagram
  past : (n : ℕ) → Header bs n → 0 < n → n ≤ s.longest → length bs < H + n → Broken s bs 5
  -- one to three bytes are left over
  few : 0 < length bs → length bs < H → Broken s bs 5

-- neither the setting nor the state is refused
abbrev pub Fine : Setting → Counter → Type 0
Fine s c = Ready (sound s) (valid W c)

-- the leftmost rule that a datagram breaks
abbrev pub Breaks : Setting → List ℕ → (n p : ℕ) → Type 0
Breaks s t = Leftmost (λ p ms. Laid s p (drop p t) 0 ms t) (λ p n. Broken s (drop p t) n)

-- a datagram t, read with the state c into a table of so many numbers
abbrev pub ReadRefusal : Setting → List ℕ → Counter → (numbers n p : ℕ) → Type 0
ReadRefusal s t c = R.ReadRefusal (sound s) W most_datagram (Breaks s t) (λ ms. Datagram s ms t) t c

-- such a read is accepted with k rows, and leaves the state d
abbrev pub ReadAccept : Setting → List ℕ → Counter → ℕ → ℕ → Counter → Type 0
ReadAccept s t c numbers k d = Accepted (Fine s c) (λ ms. Datagram s ms t) (behind W c) numbers k d

---- The writer -----------------------------------------------------------------------------------------------------------------

-- a packet's length that the writer takes
pub record Fit (s : Setting) (n : ℕ) : Type 0 where
  pub least : 0 < n
  pub most : n ≤ s.longest

pub data Unfit (s : Setting) (n : ℕ) : Type 0 where
  empty : n ≡ 0 → Unfit s n
  over : s.longest < n → Unfit s n

-- packets of the lengths ns in the joined bytes bs, first counter c, an output of so many bytes
abbrev pub WriteRefusal : Setting → (bs ns : List ℕ) (c bytes n p : ℕ) → Type 0
WriteRefusal s bs ns c = R.WriteRefusal (sound s) W most_datagram (Fit s) (Unfit s) (length (write c (packets ns bs))) bs ns c

-- such a write is accepted with k bytes and the next counter d
abbrev pub WriteAccept : Setting → (bs ns : List ℕ) (c bytes k d : ℕ) → Type 0
WriteAccept s bs ns c = R.WriteAccept (sound s) W most_datagram (Fit s) (length (write c (packets ns bs))) bs ns c
