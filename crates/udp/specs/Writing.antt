-- Writing a datagram (Ask 3): messages back to back. No byte is free, so there is no fill byte.
use Rattle.std.specs.Prelude.{ℕ, ◌+◌, Bool, ◌||◌, List, [], ◌∷◌, ◌++◌, length, ltb, eqb}
use Rattle.layout.specs.Field.{values, puts}
use Rattle.layout.specs.Walk.{Out}
use Rattle.packet.specs.Writing.{Writing}
use Rattle.packet.specs.Answer.{Answer, weighed, stored}
use Rattle.packet.specs.Counter.{holds, next, later}
use Rattle.packet.specs.Message.{Msg}
use Rattle.packet.specs.Packets.{packets, mismatched, first}
use Rattle.udp.specs.declared.Setting.{Setting}
use Rattle.udp.specs.Setting.{fields, H, W, most_datagram, sound}

---- The bytes ------------------------------------------------------------------------------------------------------------------

-- header and packet
abbrev pub message_bytes : ℕ → List ℕ → List ℕ
message_bytes c b = puts (values 0 (length b) c) 0 fields ++ b

-- the datagram: the first packet's counter, packets
unfoldable pub write : ℕ → List (List ℕ) → List ℕ
write c [] = []
write c (b ∷ bs) = message_bytes c b ++ write (next W c) bs

-- the messages, where they come to stand from place q on
unfoldable pub placed : ℕ → ℕ → List (List ℕ) → List Msg
placed q c [] = []
placed q c (b ∷ bs) = record { at = q + H; packet = b; ctr = c } ∷ placed (q + (H + length b)) (next W c) bs

---- The answer for every input -------------------------------------------------------------------------------------------------

-- a length 0, or over X
unfoldable pub misfit : Setting → ℕ → Bool
misfit s n = eqb n 0 || ltb s.longest n

-- joined packet bytes, lengths, first counter
unfoldable pub composed : Setting → List ℕ → List ℕ → ℕ → Out ℕ
composed s bs ns c = weighed (sound s) (holds W c) (mismatched ns bs) (first (misfit s) ns) (length ns) (write c (packets ns bs))

unfoldable pub write_of : Setting → List ℕ → List ℕ → ℕ → List ℕ → Answer Writing
write_of s bs ns c out = stored most_datagram (later W (length ns) c) out (composed s bs ns c)
