-- Writing a USB transfer (document 01, 'What reading and writing return'): each message at the first place that the layout permits.
use Rattle.std.specs.Prelude.{ℕ, ◌+◌, ◌-◌, ◌%◌, Bool, cond, ◌&&◌, ◌||◌, List, [], ◌∷◌, ◌++◌, length, replicate, leb, ltb, eqb}
use Rattle.layout.specs.Field.{width, bytes, values, puts, Name.LEN}
use Rattle.layout.specs.Multiple.{pad}
use Rattle.layout.specs.Walk.{Out}
use Rattle.packet.specs.Message.{Msg}
use Rattle.packet.specs.Counter.{holds, next, later}
use Rattle.packet.specs.Limit.{most_bytes}
use Rattle.packet.specs.Packets.{packets, mismatched, first}
use Rattle.packet.specs.Writing.{Writing}
use Rattle.packet.specs.Answer.{Answer, weighed, stored}
use Rattle.usb.specs.declared.Setting.{Setting}
use Rattle.usb.specs.Setting.{fields, H, W, whole, sound}

---- The bytes ------------------------------------------------------------------------------------------------------------------

-- n bytes that start with a zero LEN
abbrev pub zero_bytes : Setting → ℕ → ℕ → List ℕ
zero_bytes s fill n = bytes (width LEN (fields s)) 0 ++ replicate (n - width LEN (fields s)) fill

-- a rest of n bytes: free, but for a zero LEN in multiple and streaming packing where a header fits
unfoldable pub rest_bytes : Setting → ℕ → ℕ → List ℕ
rest_bytes s fill n = cond (eqb s.packing 0 || ltb n (H s)) (replicate n fill) (zero_bytes s fill n)

-- header, packet and tail
abbrev pub message_bytes : Setting → ℕ → ℕ → List ℕ → List ℕ
message_bytes s fill c b =
    puts (values 0 (length b) c) fill (fields s) ++ (b ++ replicate (pad s.align (H s + length b)) fill)

-- may a message with a packet of n bytes stand at place q
unfoldable pub permits : Setting → ℕ → ℕ → Bool
permits s q n =
    cond (eqb s.packing 0) (eqb (q % s.datapacket) 0)
    (leb (q % s.datapacket + cond (eqb s.packing 1) (whole s n) (H s)) s.datapacket)

-- the bytes passed over from place q to the first place where such a message may stand
unfoldable pub skipped : Setting → ℕ → ℕ → ℕ
skipped s q n = cond (permits s q n) 0 (s.datapacket - q % s.datapacket)

-- the transfer from place q on: fill byte, whether to fill up, the first packet's counter, packets
unfoldable pub write : Setting → ℕ → Bool → ℕ → ℕ → List (List ℕ) → List ℕ
write s fill full q c [] = cond (full && ltb 0 (q % s.datapacket)) (rest_bytes s fill (s.datapacket - q % s.datapacket)) []
write s fill full q c (b ∷ bs) =
    rest_bytes s fill (skipped s q (length b))
    ++ (message_bytes s fill c b
    ++ write s fill full (q + skipped s q (length b) + whole s (length b)) (next (W s) c) bs)

-- the messages, where they come to stand
unfoldable pub placed : Setting → ℕ → ℕ → List (List ℕ) → List Msg
placed s q c [] = []
placed s q c (b ∷ bs) =
    record { at = q + skipped s q (length b) + H s; packet = b; ctr = cond (eqb (W s) 0) 0 c }
    ∷ placed s (q + skipped s q (length b) + whole s (length b)) (next (W s) c) bs

---- The answer for every input -------------------------------------------------------------------------------------------------

-- a length 0, over X, or, in single and multiple packing, not fitting one data packet
unfoldable pub misfit : Setting → ℕ → Bool
misfit s n = eqb n 0 || ltb s.longest n || (ltb s.packing 2 && ltb s.datapacket (whole s n))

-- joined packet bytes, lengths, first counter, fill byte, whether to fill up
unfoldable pub composed : Setting → List ℕ → List ℕ → ℕ → ℕ → Bool → Out ℕ
composed s bs ns c fill full =
    weighed (sound s) (holds (W s) c) (mismatched ns bs) (first (misfit s) ns) (length ns) (write s fill full 0 c (packets ns bs))

unfoldable pub write_of : Setting → List ℕ → List ℕ → ℕ → ℕ → Bool → List ℕ → Answer Writing
write_of s bs ns c fill full out = stored most_bytes (later (W s) (length ns) c) out (composed s bs ns c fill full)
