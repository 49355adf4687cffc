-- Numbers in decimal, and the line of a refusal. Bytes are ASCII: a space is 32, a line's end is 10, the digits are 48 to 57.
use Rattle.std.specs.Prelude.{ℕ, zero, suc, ◌+◌, ◌/◌, ◌%◌, cond, List, [], ◌∷◌, ◌++◌, ltb}

-- the digits of n, the last behind those of n / 10; a number below 10 has one. At most so many stand before the last
unfoldable pub spelled : ℕ → ℕ → List ℕ
spelled zero n = (48 + n % 10) ∷ []
spelled (suc most) n = cond (ltb n 10) [] (spelled most (n / 10)) ++ ((48 + n % 10) ∷ [])

-- no more than n stand before the last
unfoldable pub decimal : ℕ → List ℕ
decimal n = spelled n n

-- a number, and the byte behind it
abbrev pub word : ℕ → ℕ → List ℕ
word n behind = decimal n ++ (behind ∷ [])

-- `refused `
abbrev pub refused_word : List ℕ
refused_word = 114 ∷ 101 ∷ 102 ∷ 117 ∷ 115 ∷ 101 ∷ 100 ∷ 32 ∷ []

abbrev pub refused_text : (number place : ℕ) → List ℕ
refused_text n p = refused_word ++ (word n 32 ++ word p 10)
