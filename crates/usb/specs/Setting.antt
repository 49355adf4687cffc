-- USB endpoint settings (document 01, 'USB endpoint settings').
use Rattle.std.specs.Prelude.{ℕ, ◌+◌, ◌%◌, ◌^◌, Bool, ◌&&◌, ◌||◌, List, [], ◌∷◌, get_or, leb, ltb, eqb}
use Rattle.layout.specs.Field.{Field, size, width, Name.LEN, Name.CTR, Name.FILL, Field.◌of◌}
use Rattle.layout.specs.Multiple.{pad}
use Rattle.usb.specs.declared.Setting.{Setting}

-- header types 0 to 5
unfoldable pub headers : List (List Field)
headers =
    (LEN of 1 ∷ [])
    ∷ (LEN of 1 ∷ CTR of 1 ∷ [])
    ∷ (LEN of 1 ∷ FILL of 1 ∷ [])
    ∷ (LEN of 2 ∷ [])
    ∷ (LEN of 2 ∷ CTR of 2 ∷ [])
    ∷ (LEN of 2 ∷ FILL of 2 ∷ [])
    ∷ []

-- the header of a number; a number beyond the table has no field
abbrev pub header : ℕ → List Field
header n = get_or headers n []

abbrev pub fields : Setting → List Field
fields s = header s.header

-- the header's bytes
abbrev pub H : Setting → ℕ
H s = size (fields s)

-- the counter's bytes, 0 where the header has no CTR
abbrev pub W : Setting → ℕ
W s = width CTR (fields s)

-- a message's bytes, by its packet's: header, packet, tail
abbrev pub whole : Setting → ℕ → ℕ
whole s n = H s + n + pad s.align (H s + n)

abbrev pub aligned : ℕ → Bool
aligned a = eqb a 1 || eqb a 2 || eqb a 4 || eqb a 8

-- a multiple of 8, 8 to 1,024
abbrev pub sized : ℕ → Bool
sized m = leb 8 m && leb m 1024 && eqb (m % 8) 0

-- 8 to the highest number that a LEN of w bytes can say
abbrev pub sayable : ℕ → ℕ → Bool
sayable w x = leb 8 x && ltb x (256 ^ w)

unfoldable pub sound : Setting → Bool
sound s =
    ltb s.header 6
    && ltb s.packing 3
    && aligned s.align
    && sized s.datapacket
    && sayable (width LEN (fields s)) s.longest
    && ltb s.direction 2
