-- The USB layout (document 01, 'USB layout'): what it is for bytes to hold messages. Nothing here reads.
-- A place q counts from the transfer's start, so cuts stand at the multiples of the data packet size.
use Rattle.std.specs.Prelude.{ℕ, ◌+◌, ◌-◌, ◌%◌, ◌<◌, ◌≤◌, min, ◌≡◌, true, List, [], ◌∷◌, ◌++◌, length}
use Rattle.layout.specs.Field.{says, Name.LEN, Name.CTR}
use Rattle.packet.specs.Message.{Msg}
use Rattle.packet.specs.Limit.{most_bytes}
use Rattle.usb.specs.declared.Setting.{Setting}
use Rattle.usb.specs.Setting.{fields, H, sound}

-- a message at place q: header h, packet b, tail e
pub record Message (s : Setting) (q : ℕ) (h b e : List ℕ) : Type 0 where
  pub header : length h ≡ H s
  pub len : says LEN (fields s) h 0 ≡ length b
  pub least : 0 < length b
  pub most : length b ≤ s.longest
  -- the tail is the fewest bytes that make the whole a multiple of A
  pub short : length e < s.align
  pub whole : (length h + length b + length e) % s.align ≡ 0
  -- a header never crosses a data packet's end
  pub uncut : q % s.datapacket + length h ≤ s.datapacket
  -- single and multiple: wholly inside a data packet
  pub within : s.packing < 2 → q % s.datapacket + (length h + length b + length e) ≤ s.datapacket
  -- single: one message, at the start
  pub first : s.packing ≡ 0 → q % s.datapacket ≡ 0

-- a rest r at place q, before the bytes bs: it reaches to the end of its data packet, and an empty rest is none
pub record Reaches (s : Setting) (q : ℕ) (r bs : List ℕ) : Type 0 where
  pub some : 0 < length r
  pub full : length r ≡ min (s.datapacket - q % s.datapacket) (length r + length bs)

-- what its bytes may be: behind a single message any; else fewer than H, or at least H with LEN zero
pub data Rest (s : Setting) (q : ℕ) (r : List ℕ) : Type 0 where
  any : s.packing ≡ 0 → 0 < q % s.datapacket → Rest s q r
  few : 0 < s.packing → length r < H s → Rest s q r
  zeroed : 0 < s.packing → H s ≤ length r → says LEN (fields s) r 0 ≡ 0 → Rest s q r

-- The bytes from place q on hold these messages, up to place p, where the bytes cs are left
pub data Laid (s : Setting) (p : ℕ) (cs : List ℕ) : ℕ → List Msg → List ℕ → Type 0 where
  here : Laid s p cs p [] cs
  message : {q : ℕ} (h b e : List ℕ) {bs : List ℕ} {ms : List Msg} → Message s q h b e
      → Laid s p cs (q + (length h + length b + length e)) ms bs
      → Laid s p cs q (record { at = q + length h; packet = b; ctr = says CTR (fields s) h 0 } ∷ ms) (h ++ (b ++ (e ++ bs)))
  rest : {q : ℕ} (r : List ℕ) {bs : List ℕ} {ms : List Msg} → Rest s q r → Reaches s q r bs
      → Laid s p cs (q + length r) ms bs → Laid s p cs q ms (r ++ bs)

-- a transfer, which holds these messages and nothing else
pub record Transfer (s : Setting) (ms : List Msg) (t : List ℕ) : Type 0 where
  pub setting : sound s ≡ true
  pub long : length t ≤ most_bytes
  pub laid : Laid s (length t) [] 0 ms t
