-- How a text parts into words (Ask 1; docs/DECISIONS.md, 'Words'). A text is its bytes; a word is known by its place and its bytes.
use Rattle.std.specs.Prelude.{ℕ, ◌+◌, ◌≡◌, Bool, true, false, cond, ◌&&◌, ◌||◌, List, [], ◌∷◌, ◌++◌, length, eqb}
use Prim.Native.String.{String}
use Prim.Native.Char.{code}
use Rattle.words.specs.declared.Start.{Start}
use Rattle.words.specs.declared.Start.TheVariants.{Nothing, Blank, Comment, Line, Quote, Other}

-- the bytes of a text that is written out
abbrev pub ascii : String → List ℕ
ascii String.[] = []
ascii (String.◌∷◌ c s) = code c ∷ ascii s

-- whether a text begins with these bytes
abbrev pub begins : List ℕ → List ℕ → Bool
begins [] t = true
begins (a ∷ s) [] = false
begins (a ∷ s) (b ∷ t) = eqb b a && begins s t

-- words are compared byte for byte
abbrev pub same : List ℕ → List ℕ → Bool
same [] [] = true
same [] (b ∷ t) = false
same (a ∷ s) [] = false
same (a ∷ s) (b ∷ t) = eqb a b && same s t

---- Where pieces start and end -------------------------------------------------------------------------------------------------

-- blank, tab, CR, LF
abbrev pub is_blank : ℕ → Bool
is_blank b = eqb b 32 || eqb b 9 || eqb b 13 || eqb b 10

-- what starts where these bytes are left
abbrev pub start : List ℕ → Start
start [] = Nothing
start (b ∷ t) =
    cond (is_blank b) Blank
    (cond (begins (ascii "/*") (b ∷ t)) Comment
    (cond (begins (ascii "//") (b ∷ t)) Line
    (cond (begins (ascii "\"") (b ∷ t)) Quote Other)))

-- a word ends where anything else starts
abbrev pub ends : Start → Bool
ends Nothing = true
ends Blank = true
ends Comment = true
ends Line = true
ends Quote = true
ends Other = false

abbrev pub ends_word : List ℕ → Bool
ends_word t = ends (start t)

-- a line ends at LF, at CR and at the text's end
abbrev pub ends_line : List ℕ → Bool
ends_line [] = true
ends_line (b ∷ t) = eqb b 10 || eqb b 13

---- The rules ------------------------------------------------------------------------------------------------------------------

-- the bytes s, behind which t is left, are those before the first place with the property p
pub data Before (p : List ℕ → Bool) (t : List ℕ) : List ℕ → Type 0 where
  here : p t ≡ true → Before p t []
  on : {b : ℕ} {s : List ℕ} → p (b ∷ (s ++ t)) ≡ false → Before p t s → Before p t (b ∷ s)

-- no place has it
pub data Never (p : List ℕ → Bool) : List ℕ → Type 0 where
  here : p [] ≡ false → Never p []
  on : {b : ℕ} {t : List ℕ} → p (b ∷ t) ≡ false → Never p t → Never p (b ∷ t)

-- bytes that part words, before the bytes t
pub data Gap (t : List ℕ) : List ℕ → Type 0 where
  blank : (b : ℕ) → is_blank b ≡ true → Gap t (b ∷ [])
  comment : {s : List ℕ} → Before (begins (ascii "*/")) (ascii "*/" ++ t) s → Gap t (ascii "/*" ++ (s ++ ascii "*/"))
  line : {s : List ℕ} → Before ends_line t s → Gap t (ascii "//" ++ s)

-- bytes that are a word, before the bytes t
pub data IsWord (t : List ℕ) : List ℕ → Type 0 where
  string : {s : List ℕ} → Before (begins (ascii "\"")) (ascii "\"" ++ t) s → IsWord t (ascii "\"" ++ (s ++ ascii "\""))
  other : {b : ℕ} {s : List ℕ} → Before ends_word t (b ∷ s) → IsWord t (b ∷ s)

-- a comment or a string that is not closed
pub data Unclosed : List ℕ → Type 0 where
  comment : {s : List ℕ} → Never (begins (ascii "*/")) s → Unclosed (ascii "/*" ++ s)
  string : {s : List ℕ} → Never (begins (ascii "\"")) s → Unclosed (ascii "\"" ++ s)

pub record Word : Type 0 where
  pub at : ℕ
  pub text : List ℕ

-- The bytes from place q on part into these words; behind them the text ends, clean or inside what is not closed
pub data Parts : ℕ → List ℕ → List Word → Bool → Type 0 where
  clean : {q : ℕ} → Parts q [] [] true
  cut : {q : ℕ} {t : List ℕ} → Unclosed t → Parts q t [] false
  gap : {q : ℕ} {s t : List ℕ} {ws : List Word} {c : Bool} → Gap t s → Parts (q + length s) t ws c → Parts q (s ++ t) ws c
  word : {q : ℕ} {s t : List ℕ} {ws : List Word} {c : Bool} → IsWord t s → Parts (q + length s) t ws c
      → Parts q (s ++ t) (record { at = q; text = s } ∷ ws) c
