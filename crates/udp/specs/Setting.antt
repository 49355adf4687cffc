-- UDP settings (Ask 3): the header, the longest packet and the longest datagram.
use Rattle.std.specs.Prelude.{ℕ, Bool, ◌&&◌, List, [], ◌∷◌, leb, ltb}
use Rattle.layout.specs.Field.{Field, Name.LEN, Name.CTR, Field.◌of◌}
use Rattle.udp.specs.declared.Setting.{Setting}

-- LEN word, CTR word
unfoldable pub fields : List Field
fields = LEN of 2 ∷ CTR of 2 ∷ []

-- the header's bytes, and the counter's
abbrev pub H : ℕ
H = 4

abbrev pub W : ℕ
W = 2

-- the longest datagram in bytes
abbrev pub most_datagram : ℕ
most_datagram = 1472

-- a longest packet of 8 to 1,468 bytes, since 1,468 and a header fill a datagram; direction 0 or 1
unfoldable pub sound : Setting → Bool
sound s = leb 8 s.longest && leb s.longest 1468 && ltb s.direction 2
