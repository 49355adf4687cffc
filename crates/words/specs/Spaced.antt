-- Words written out, with any gaps before, between and behind them.
use Rattle.std.specs.Prelude.{◌≡◌, Bool, true, false, ◌&&◌, List, [], ◌∷◌, ◌++◌, ℕ, eqb}
use Rattle.words.specs.Words.{ascii, begins, ends_word, Gap, IsWord, Word}

-- whether the last byte is a slash
abbrev pub slashed : List ℕ → Bool
slashed [] = false
slashed (b ∷ []) = eqb b 47
slashed (b ∷ c ∷ s) = slashed (c ∷ s)

-- the bytes t may stand right behind the word w
pub data Follows (t w : List ℕ) : Type 0 where
  -- anything behind a string
  string : begins (ascii "\"") w ≡ true → Follows t w
  -- what ends a word, but no slash behind a slash: `a/` and `/**/` make `a` and a comment of a line
  other : ends_word t ≡ true → (slashed w && begins (ascii "/") t) ≡ false → Follows t w

pub data Spaced : List (List ℕ) → List ℕ → Type 0 where
  none : Spaced [] []
  gap : {ws : List (List ℕ)} {s t : List ℕ} → Gap t s → Spaced ws t → Spaced ws (s ++ t)
  word : {ws : List (List ℕ)} {w t : List ℕ} → IsWord [] w → Follows t w → Spaced ws t → Spaced (w ∷ ws) (w ++ t)

abbrev pub texts : List Word → List (List ℕ)
texts [] = []
texts (w ∷ ws) = w.text ∷ texts ws
