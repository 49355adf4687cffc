-- FlexRay settings (document 01, 'FlexRay settings and layout').
use Rattle.std.specs.Prelude.{ℕ, ◌+◌, ◌%◌, Bool, false, ◌&&◌, ◌||◌, List, [], ◌∷◌, get_or, leb, ltb, eqb}
use Rattle.layout.specs.Field.{Field, size, width, Name.NAX, Name.LEN, Name.CTR, Name.FILL, Field.◌of◌}
use Rattle.layout.specs.Multiple.{pad}
use Rattle.flexray.specs.declared.Setting.{Setting}

-- a header, and the alignments that go with it
pub record Header : Type 0 where
  pub fields : List Field
  pub aligns : List ℕ

-- header types 0 to 8
unfoldable pub headers : List Header
headers =
    record { fields = NAX of 1 ∷ []; aligns = 1 ∷ [] }
    ∷ record { fields = NAX of 1 ∷ FILL of 1 ∷ []; aligns = 2 ∷ [] }
    ∷ record { fields = NAX of 1 ∷ FILL of 3 ∷ []; aligns = 4 ∷ [] }
    ∷ record { fields = NAX of 1 ∷ CTR of 1 ∷ []; aligns = 1 ∷ 2 ∷ [] }
    ∷ record { fields = NAX of 1 ∷ CTR of 1 ∷ FILL of 2 ∷ []; aligns = 4 ∷ [] }
    ∷ record { fields = NAX of 1 ∷ LEN of 1 ∷ []; aligns = 1 ∷ 2 ∷ [] }
    ∷ record { fields = NAX of 1 ∷ FILL of 2 ∷ LEN of 1 ∷ []; aligns = 4 ∷ [] }
    ∷ record { fields = NAX of 1 ∷ CTR of 1 ∷ LEN of 1 ∷ []; aligns = 1 ∷ [] }
    ∷ record { fields = NAX of 1 ∷ CTR of 1 ∷ FILL of 1 ∷ LEN of 1 ∷ []; aligns = 2 ∷ 4 ∷ [] }
    ∷ []

-- the header of a number; a number beyond the table has no field and no alignment
abbrev pub header : ℕ → Header
header n = get_or headers n (record { fields = []; aligns = [] })

abbrev pub fields : Setting → List Field
fields s = (header s.header).fields

-- the header's bytes
abbrev pub H : Setting → ℕ
H s = size (fields s)

-- the bytes of LEN, 0 where the header has none
abbrev pub L : Setting → ℕ
L s = width LEN (fields s)

-- the counter's bytes, 0 where the header has no CTR
abbrev pub W : Setting → ℕ
W s = width CTR (fields s)

-- where the packet behind one that ends at e starts: the least multiple of a that leaves at least one byte between
unfoldable pub start : ℕ → ℕ → ℕ
start a e = e + 1 + pad a (e + 1)

-- how far a frame of n packets moves the counter
unfoldable pub moved : ℕ → ℕ
moved n = 1

-- the highest frame ceiling
abbrev pub most_ceiling : ℕ
most_ceiling = 254

abbrev pub among : ℕ → List ℕ → Bool
among a [] = false
among a (b ∷ bs) = eqb a b || among a bs

-- even, 8 to the highest
abbrev pub capped : ℕ → Bool
capped f = leb 8 f && leb f most_ceiling && eqb (f % 2) 0

unfoldable pub sound : Setting → Bool
sound s =
    ltb s.node 256
    && ltb s.direction 2
    && capped s.ceiling
    && among s.align (header s.header).aligns
