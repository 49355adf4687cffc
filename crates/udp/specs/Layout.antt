-- The datagram's layout (Ask 3): messages back to back, with no tail and no fill, ending with the datagram. Nothing here reads.
-- A place q counts from the datagram's start.
use Rattle.std.specs.Prelude.{ℕ, ◌+◌, ◌<◌, ◌≤◌, ◌≡◌, true, List, [], ◌∷◌, ◌++◌, length}
use Rattle.layout.specs.Field.{says, Name.LEN, Name.CTR}
use Rattle.packet.specs.Message.{Msg}
use Rattle.udp.specs.declared.Setting.{Setting}
use Rattle.udp.specs.Setting.{fields, H, most_datagram, sound}

-- a message: header h, packet b
pub record Message (s : Setting) (h b : List ℕ) : Type 0 where
  pub header : length h ≡ H
  pub len : says LEN fields h 0 ≡ length b
  pub least : 0 < length b
  pub most : length b ≤ s.longest

-- The bytes from place q on hold these messages, up to place p, where the bytes cs are left
pub data Laid (s : Setting) (p : ℕ) (cs : List ℕ) : ℕ → List Msg → List ℕ → Type 0 where
  here : Laid s p cs p [] cs
  message : {q : ℕ} (h b : List ℕ) {bs : List ℕ} {ms : List Msg} → Message s h b → Laid s p cs (q + (length h + length b)) ms bs
      → Laid s p cs q (record { at = q + length h; packet = b; ctr = says CTR fields h 0 } ∷ ms) (h ++ (b ++ bs))

-- a datagram, which holds these messages and nothing else
pub record Datagram (s : Setting) (ms : List Msg) (t : List ℕ) : Type 0 where
  pub setting : sound s ≡ true
  pub long : length t ≤ most_datagram
  pub laid : Laid s (length t) [] 0 ms t
