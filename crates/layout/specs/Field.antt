-- Headers (document 01, the header tables): a header is a list of fields, from which its size and its fields' places and widths follow.
-- Numbers in bytes stand low byte first, and are defined over the width.
use Rattle.std.specs.Prelude.{ℕ, zero, suc, ◌+◌, ◌*◌, ◌/◌, ◌%◌, Bool, cond, List, [], ◌∷◌, ◌++◌, get_or, replicate, eqb}
use Rattle.layout.specs.declared.Shape.{Shape}

pub data Name : Type 0 where
  NAX LEN CTR FILL : Name

-- a field of so many bytes
infix 68 ◌of◌
pub data Field : Type 0 where
  ◌of◌ : Name → ℕ → Field

abbrev pub code : Name → ℕ
code NAX = 0
code LEN = 1
code CTR = 2
code FILL = 3

abbrev pub is : Name → Name → Bool
is k j = eqb (code k) (code j)

-- a header's bytes
abbrev pub size : List Field → ℕ
size [] = 0
size (j of w ∷ fs) = w + size fs

-- where the first field of a kind starts; the header's size where there is none
abbrev pub place : Name → List Field → ℕ
place k [] = 0
place k (j of w ∷ fs) = cond (is k j) 0 (w + place k fs)

-- how many bytes the first field of a kind has; 0 where there is none
abbrev pub width : Name → List Field → ℕ
width k [] = 0
width k (j of w ∷ fs) = cond (is k j) w (width k fs)

-- what the code holds of a header
abbrev pub shape : List Field → Shape
shape fs =
    record {
      size = size fs;
      lenat = place LEN fs;
      lenwidth = width LEN fs;
      ctrat = place CTR fs;
      ctrwidth = width CTR fs;
    }

-- the number in the w bytes of t from i on
abbrev pub number_at : ℕ → List ℕ → ℕ → ℕ
number_at zero t i = 0
number_at (suc w) t i = get_or t i 0 + 256 * number_at w t (suc i)

-- the w bytes of a number
abbrev pub bytes : ℕ → ℕ → List ℕ
bytes zero n = []
bytes (suc w) n = n % 256 ∷ bytes w (n / 256)

-- what the field of a kind says in a header that starts at place i of t; 0 where the header has no such field
abbrev pub says : Name → List Field → List ℕ → ℕ → ℕ
says k fs t i = number_at (width k fs) t (i + place k fs)

-- what the fields are to say: a node, a packet's length, a counter
abbrev pub values : ℕ → ℕ → ℕ → Name → ℕ
values node n c NAX = node
values node n c LEN = n
values node n c CTR = c
values node n c FILL = 0

-- a field's bytes: its number, or free bytes f
abbrev pub put : (Name → ℕ) → ℕ → Name → ℕ → List ℕ
put v f NAX w = bytes w (v NAX)
put v f LEN w = bytes w (v LEN)
put v f CTR w = bytes w (v CTR)
put v f FILL w = replicate w f

-- the header whose fields say v
abbrev pub puts : (Name → ℕ) → ℕ → List Field → List ℕ
puts v f [] = []
puts v f (j of w ∷ fs) = put v f j w ++ puts v f fs
