-- Writing a FlexRay frame (document 01, 'What reading and writing return'): one frame of the least even length.
use Rattle.std.specs.Prelude.{ℕ, ◌+◌, ◌-◌, ◌%◌, Bool, cond, not, ◌&&◌, ◌||◌, List, [], ◌∷◌, ◌++◌, length, replicate, ltb, eqb}
use Rattle.layout.specs.Field.{values, puts}
use Rattle.layout.specs.Walk.{Out}
use Rattle.packet.specs.Message.{Msg}
use Rattle.packet.specs.Counter.{holds, later}
use Rattle.packet.specs.Limit.{most_bytes}
use Rattle.packet.specs.Packets.{packets, mismatched, first}
use Rattle.packet.specs.Writing.{Writing}
use Rattle.packet.specs.Answer.{Answer, weighed, stored}
use Rattle.flexray.specs.declared.Setting.{Setting}
use Rattle.flexray.specs.Setting.{fields, H, L, W, start, moved, sound}

---- The bytes ------------------------------------------------------------------------------------------------------------------

-- the byte behind a last packet that ends at e: zero on the next LEN place, else the fill byte
abbrev pub byte_after : Setting → ℕ → ℕ → ℕ
byte_after s fill e = cond (not (eqb (L s) 0) && eqb (start s.align e) (e + 1)) 0 fill

-- it evens the frame
unfoldable pub evening : Setting → ℕ → ℕ → List ℕ
evening s fill e = cond (eqb (e % 2) 0) [] (byte_after s fill e ∷ [])

-- the frame behind a packet that ends at e
unfoldable pub further : Setting → ℕ → ℕ → List (List ℕ) → List ℕ
further s fill e [] = evening s fill e
further s fill e (b ∷ bs) =
    replicate (start s.align e - 1 - e) fill
    ++ (length b ∷ (b ++ further s fill (start s.align e + length b) bs))

-- fill byte, counter, packets
unfoldable pub frame : Setting → ℕ → ℕ → List (List ℕ) → List ℕ
frame s fill c [] = []
frame s fill c (b ∷ bs) = puts (values s.node (length b) c) fill (fields s) ++ (b ++ further s fill (H s + length b) bs)

-- the packets, where they come to stand
unfoldable pub placed_behind : ℕ → ℕ → List (List ℕ) → List Msg
placed_behind a e [] = []
placed_behind a e (b ∷ bs) = record { at = start a e; packet = b; ctr = 0 } ∷ placed_behind a (start a e + length b) bs

-- without LEN a reader cannot tell the evening byte from the packet
abbrev pub shown : Setting → ℕ → List ℕ → List ℕ
shown s fill b = b ++ cond (eqb (L s) 0) (evening s fill (H s + length b)) []

unfoldable pub placed : Setting → ℕ → ℕ → List (List ℕ) → List Msg
placed s fill c [] = []
placed s fill c (b ∷ bs) =
    record { at = H s; packet = shown s fill b; ctr = cond (eqb (W s) 0) 0 c }
    ∷ placed_behind s.align (H s + length b) bs

---- The answer for every input -------------------------------------------------------------------------------------------------

-- a packet's length, and the place behind it
pub record Span : Type 0 where
  pub long : ℕ
  pub end : ℕ

unfoldable pub spans_behind : ℕ → ℕ → List ℕ → List Span
spans_behind a e [] = []
spans_behind a e (n ∷ ns) = record { long = n; end = start a e + n } ∷ spans_behind a (start a e + n) ns

unfoldable pub spans : Setting → List ℕ → List Span
spans s [] = []
spans s (n ∷ ns) = record { long = n; end = H s + n } ∷ spans_behind s.align (H s + n) ns

-- a length 0, or not fitting the frame
unfoldable pub misfit : Setting → Span → Bool
misfit s x = eqb x.long 0 || ltb s.ceiling x.end

-- the list is empty, or not one packet without LEN
unfoldable pub miscounted : Setting → List ℕ → Bool
miscounted s ns = eqb (length ns) 0 || (eqb (L s) 0 && not (eqb (length ns) 1))

-- joined packet bytes, lengths, first counter, fill byte
unfoldable pub composed : Setting → List ℕ → List ℕ → ℕ → ℕ → Out ℕ
composed s bs ns c fill =
    weighed (sound s) (holds (W s) c) (mismatched ns bs || miscounted s ns) (first (misfit s) (spans s ns)) (length ns)
    (frame s fill c (packets ns bs))

unfoldable pub write_of : Setting → List ℕ → List ℕ → ℕ → ℕ → List ℕ → Answer Writing
write_of s bs ns c fill out = stored most_bytes (later (W s) (moved (length ns)) c) out (composed s bs ns c fill)
