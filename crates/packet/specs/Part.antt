-- A part of an input (document 01, 'What reading and writing return'), asked for by place and length.
use Rattle.std.specs.Prelude.{ℕ, ◌+◌, cond, List, [], length, take, drop, nat_le}

-- the part lies inside, or a refusal's number and place
pub data Checked : Type 0 where
  Inside : Checked
  Refused : ℕ → ℕ → Checked

-- the part, or nothing where place plus length exceeds the input's length
abbrev pub part_of : List ℕ → ℕ → ℕ → List ℕ
part_of t p n = cond (nat_le (p + n) (length t)) (take n (drop p t)) []

-- there the check answers 5 at that place
abbrev pub check_of : List ℕ → ℕ → ℕ → Checked
check_of t p n = cond (nat_le (p + n) (length t)) Inside (Refused 5 p)

-- the number, 0 where the part lies inside, and the place
abbrev pub check_number : Checked → ℕ
check_number Inside = 0
check_number (Refused n p) = n

abbrev pub check_place : Checked → ℕ
check_place Inside = 0
check_place (Refused n p) = p
