-- What a text begins with, by the rules, is the piece that is found there, and what is found is so by the rules.
use Prim.Native.Nat.{ℕ, ◌+◌}
use native.Mathlib.Omega.{arith}
use mathlib.Core.Path.{◌≡◌, refl, sym, ap, ◌∙◌, subst}
use mathlib.Core.Bool.{Bool, true, false, true≢false, cond}
use mathlib.Core.Option.{Option, none, some}
use mathlib.Core.List.{List, [], ◌∷◌, ◌++◌, append_assoc}
use lib.ListN.{length, drop, length-append}
use lib.Dec.{eqb}
use borrow.Author.Tests.{eqb-true}
use Rattle.words.specs.declared.Start.{Start}
use Rattle.words.specs.declared.Start.TheVariants as S
use Rattle.words.specs.Words.{ascii, begins, is_blank, start, ends, ends_word, ends_line, Before, Never, Gap, IsWord, Unclosed}
use Rattle.words.specs.Parting.{Piece, one_more, find, up_to, piece_from, piece}
use Rattle.words.proofs.SameLaws.{both}

---- Searching ------------------------------------------------------------------------------------------------------------------

pub find-here : (p : List ℕ → Bool) (t : List ℕ) → p t ≡ true → find p t ≡ some 0
find-here p [] e = rw e
find-here p (b ∷ t) e = rw e

module _ {p : List ℕ → Bool} where
  pub find-before : {t s : List ℕ} → Before p t s → find p (s ++ t) ≡ some (length s)
  find-before {t} (Before.here e) = find-here p t e
  find-before (Before.on e r) = rw (e, find-before r)

  pub find_never : {t : List ℕ} → Never p t → find p t ≡ none
  find_never (Never.here e) = rw e
  find_never (Never.on e r) = rw (e, find_never r)

  -- the property holds where the bytes before it end
  pub stops : {t s : List ℕ} → Before p t s → p t ≡ true
  stops (Before.here e) = e
  stops (Before.on e r) = stops r

  -- what the text's end has is had somewhere
  somewhere : {t : List ℕ} → p [] ≡ true → Never p t → ⊥
  somewhere h (Never.here e) = true≢false (sym h ∙ e)
  somewhere h (Never.on e r) = somewhere h r

-- what a search has found
pub data Sought (p : List ℕ → Bool) : List ℕ → Option ℕ → Type 0 where
  at : {s t : List ℕ} → Before p t s → Sought p (s ++ t) (some (length s))
  nowhere : {t : List ℕ} → Never p t → Sought p t none

pub sought : (p : List ℕ → Bool) (t : List ℕ) → Sought p t (find p t)
sought p [] = first (p []) refl
  where
    first : (x : Bool) → p [] ≡ x → Sought p [] (cond x (some 0) none)
    first true e = Sought.at {s = []} (Before.here e)
    first false e = Sought.nowhere (Never.here e)
sought p (b ∷ t) = first (p (b ∷ t)) refl (sought p t)
  where
    first : {u : List ℕ} {o : Option ℕ} (x : Bool) → p (b ∷ u) ≡ x → Sought p u o
        → Sought p (b ∷ u) (cond x (some 0) (one_more o))
    first true e r = Sought.at {s = []} (Before.here e)
    first false e (Sought.at r) = Sought.at (Before.on e r)
    first false e (Sought.nowhere r) = Sought.nowhere (Never.on e r)

---- What starts ----------------------------------------------------------------------------------------------------------------

-- a text that begins with s is s and what is left
pub begun : (s t : List ℕ) → begins s t ≡ true → t ≡ s ++ drop (length s) t
begun [] t e = refl
begun (a ∷ s) [] e = absurd (true≢false (sym e))
begun (a ∷ s) (b ∷ t) e =
    let (x, y) = both (eqb b a) (begins s t) e in
    let k : b ≡ a = eqb-true b a x in
    let r : t ≡ s ++ drop (length s) t = begun s t y in
    cc

pub data Started : List ℕ → Start → Type 0 where
  nothing : Started [] S.Nothing
  blank : (b : ℕ) {t : List ℕ} → is_blank b ≡ true → Started (b ∷ t) S.Blank
  comment : {t : List ℕ} → Started (ascii "/*" ++ t) S.Comment
  line : {t : List ℕ} → Started (ascii "//" ++ t) S.Line
  quote : {t : List ℕ} → Started (ascii "\"" ++ t) S.Quote
  other : {b : ℕ} {t : List ℕ} → start (b ∷ t) ≡ S.Other → Started (b ∷ t) S.Other

pub started : (t : List ℕ) → Started t (start t)
started [] = Started.nothing
started (b ∷ t) =
    by (is_blank b) (begins (ascii "/*") (b ∷ t)) (begins (ascii "//") (b ∷ t))
    (begins (ascii "\"") (b ∷ t)) refl refl refl refl
  where
    by : (w x y z : Bool) → is_blank b ≡ w → begins (ascii "/*") (b ∷ t) ≡ x
        → begins (ascii "//") (b ∷ t) ≡ y → begins (ascii "\"") (b ∷ t) ≡ z
        → Started (b ∷ t) (cond w S.Blank (cond x S.Comment (cond y S.Line (cond z S.Quote S.Other))))
    by true x y z e f g h = Started.blank b e
    by false true y z e f g h = rw (begun (ascii "/*") (b ∷ t) f) Started.comment
    by false false true z e f g h = rw (begun (ascii "//") (b ∷ t) g) Started.line
    by false false false true e f g h = rw (begun (ascii "\"") (b ∷ t) h) Started.quote
    by false false false false e f g h = Started.other {b = b} {t = t} (rw (e, f, g, h))

---- The piece ------------------------------------------------------------------------------------------------------------------

-- what a text begins with, in the rules' terms
pub data Seen : List ℕ → Piece → Type 0 where
  done : Seen [] Piece.done
  unclosed : {t : List ℕ} → Unclosed t → Seen t Piece.unclosed
  passed : {s t : List ℕ} {n : ℕ} → Gap t s → length s ≡ n → Seen (s ++ t) (Piece.passed n)
  taken : {s t : List ℕ} {n : ℕ} → IsWord t s → length s ≡ n → Seen (s ++ t) (Piece.taken n)

-- the bytes before the first m, which closes them, and what is left behind it
closed-by : (m : List ℕ) {s t : List ℕ} → Before (begins m) t s
    → Before (begins m) (m ++ drop (length m) t) s × ((s ++ m) ++ drop (length m) t ≡ s ++ t)
closed-by m {s} {t} r =
    let e : t ≡ m ++ drop (length m) t = begun m t (stops r) in
    (subst (λ u. Before (begins m) u s) e r, append_assoc s m (drop (length m) t) ∙ ap (s ++◌) (sym e))

see_comment : {t : List ℕ} {o : Option ℕ} → Sought (begins (ascii "*/")) t o
    → Seen (ascii "/*" ++ t) (up_to (λ n. Piece.passed (n + 4)) o)
see_comment (Sought.nowhere r) = Seen.unclosed (Unclosed.comment r)
see_comment (Sought.at {s = s} r) =
    let (b, x) = closed-by (ascii "*/") r in
    rw (← x) (Seen.passed {n = length s + 4} (Gap.comment b) (simp length-append (omega arith)))

see_line : {t : List ℕ} {o : Option ℕ} → Sought ends_line t o → Seen (ascii "//" ++ t) (up_to (λ n. Piece.passed (n + 2)) o)
see_line (Sought.nowhere r) = absurd (somewhere refl r)
see_line (Sought.at {s = s} r) = Seen.passed {n = length s + 2} (Gap.line r) (omega arith)

see_quote : {t : List ℕ} {o : Option ℕ} → Sought (begins (ascii "\"")) t o
    → Seen (ascii "\"" ++ t) (up_to (λ n. Piece.taken (n + 2)) o)
see_quote (Sought.nowhere r) = Seen.unclosed (Unclosed.string r)
see_quote (Sought.at {s = s} r) =
    let (b, x) = closed-by (ascii "\"") r in
    rw (← x) (Seen.taken {n = length s + 2} (IsWord.string b) (simp length-append (omega arith)))

see_other : {u : List ℕ} {o : Option ℕ} → start u ≡ S.Other → Sought ends_word u o → Seen u (up_to Piece.taken o)
see_other e (Sought.nowhere r) = absurd (somewhere refl r)
see_other e (Sought.at (Before.here f)) = absurd (true≢false (sym f ∙ ap ends e))
see_other e (Sought.at (Before.on f r)) = Seen.taken (IsWord.other (Before.on f r)) refl

see_from : {t : List ℕ} {s : Start} → Started t s → Seen t (piece_from s t)
see_from Started.nothing = Seen.done
see_from (Started.blank b e) = Seen.passed {s = b ∷ []} (Gap.blank b e) refl
see_from (Started.comment {t = t}) = see_comment (sought (begins (ascii "*/")) t)
see_from (Started.line {t = t}) = see_line (sought ends_line t)
see_from (Started.quote {t = t}) = see_quote (sought (begins (ascii "\"")) t)
see_from (Started.other {b = b} {t = t} e) = see_other e (sought ends_word (b ∷ t))

pub see : (t : List ℕ) → Seen t (piece t)
unfolding piece
see t = see_from (started t)

goes_on : (k : Start) → ends k ≡ false → k ≡ S.Other
goes_on S.Nothing e = absurd (true≢false e)
goes_on S.Blank e = absurd (true≢false e)
goes_on S.Comment e = absurd (true≢false e)
goes_on S.Line e = absurd (true≢false e)
goes_on S.Quote e = absurd (true≢false e)
goes_on S.Other e = refl

gap_is : {t s : List ℕ} → Gap t s → piece (s ++ t) ≡ Piece.passed (length s)
unfolding piece
gap_is (Gap.blank b e) = rw e
gap_is {t} (Gap.comment {s = s} r) =
    rw (append_assoc s (ascii "*/") t, find-before r) (ap Piece.passed (simp length-append (omega arith)))
gap_is (Gap.line r) = rw (find-before r) (ap Piece.passed (omega arith))

word-is : {t s : List ℕ} → IsWord t s → piece (s ++ t) ≡ Piece.taken (length s)
unfolding piece
word-is {t} (IsWord.string {s = s} r) =
    rw (append_assoc s (ascii "\"") t, find-before r) (ap Piece.taken (simp length-append (omega arith)))
word-is {t} (IsWord.other {b = b} {s = s} (Before.on e r)) =
    let w : Before ends_word t (b ∷ s) = Before.on e r in
    ap (λ k. piece_from k (b ∷ (s ++ t))) (goes_on (start (b ∷ (s ++ t))) e) ∙ ap (up_to Piece.taken) (find-before w)

open_is : {t : List ℕ} → Unclosed t → piece t ≡ Piece.unclosed
unfolding piece
open_is (Unclosed.comment r) = rw (find_never r)
open_is (Unclosed.string r) = rw (find_never r)

-- and the rules leave no other
pub is : {t : List ℕ} {p : Piece} → Seen t p → piece t ≡ p
unfolding piece
is Seen.done = refl
is (Seen.unclosed u) = open_is u
is (Seen.passed g e) = gap_is g ∙ ap Piece.passed e
is (Seen.taken w e) = word-is w ∙ ap Piece.taken e
