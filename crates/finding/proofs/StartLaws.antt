-- What starts and ends at a place is told by the byte there and the byte behind it, 0 where there is none.
use Prim.Native.Nat.{ℕ, suc, ◌+◌, ◌<◌, ◌≤◌}
use borrow.Author.Rules.{rules}
use native.Mathlib.Omega.{arith}
use mathlib.Core.Path.{◌≡◌, refl, sym, ap, ◌∙◌}
use mathlib.Core.Bool.{Bool, true, false, cond, ◌&&◌, ◌||◌}
use mathlib.Core.List.{List, [], ◌∷◌}
use lib.ListN.{length, drop, get_or, drop_of_length-le}
use lib.Seq.{drop-cons, get_or-drop}
use lib.Dec.{eqb}
use borrow.Author.Tests.{ltb-false, eq-eqb, ne_eqb}
use Rattle.words.specs.declared.Start.{Start}
use Rattle.words.specs.declared.Start.TheVariants as S
use Rattle.words.specs.Words.{begins, is_blank, start, ends, ends_word, ends_line}
use Rattle.runs.specs.Runs.{under, equal}
use Rattle.finding.specs.Finding.{slash_by, ends_comment, ends_string}

---- By the byte there alone ----------------------------------------------------------------------------------------------------

above : (b x : ℕ) → x < b → eqb b x ≡ false
above b x h = ne_eqb b x (λ e. omega arith)

-- over 47, a slash, only a word starts
over_slash : (b : ℕ) (u : List ℕ) → 47 < b → start (b ∷ u) ≡ S.Other
over_slash b u h =
    let d : (x : ℕ) → x ≤ 47 → eqb b x ≡ false = λ x l. above b x (omega arith) in
    rw (d 32 (omega arith), d 9 (omega arith), d 13 (omega arith), d 10 (omega arith), d 47 (omega arith), d 34 (omega arith))

-- what ends at no byte of a run
pub clear_word : (b : ℕ) (u : List ℕ) → under 48 b ≡ false → ends_word (b ∷ u) ≡ false
clear_word b u e = ap ends (over_slash b u (omega (arith, ltb-false b 48 e)))

pub clear_line : (b : ℕ) (u : List ℕ) → under 14 b ≡ false → ends_line (b ∷ u) ≡ false
clear_line b u e =
    let h : 14 ≤ b = ltb-false b 14 e in
    rw (above b 10 (omega arith), above b 13 (omega arith))

pub clear_string : (b : ℕ) (u : List ℕ) → equal 34 b ≡ false → ends_string (b ∷ u) ≡ false
clear_string b u e = rw e

pub clear_comment : (b : ℕ) (u : List ℕ) → equal 42 b ≡ false → ends_comment (b ∷ u) ≡ false
clear_comment b u e = rw e

---- By two bytes ---------------------------------------------------------------------------------------------------------------

and_true : (a : Bool) → (a && true) ≡ a
and_true true = refl
and_true false = refl

-- a byte behind the first, which is not 0
begins_two : (x y b : ℕ) (u : List ℕ) → eqb 0 y ≡ false → begins (x ∷ y ∷ []) (b ∷ u) ≡ (eqb b x && eqb (get_or u 0 0) y)
begins_two x y b [] e = rw e
begins_two x y b (c ∷ u) e = rw (and_true (eqb c y))

abbrev start_by : ℕ → ℕ → Start
start_by b c =
    cond (is_blank b) S.Blank (cond (eqb b 47 && eqb c 42) S.Comment (cond (eqb b 47 && eqb c 47) S.Line (cond (eqb b 34) S.Quote S.Other)))

module _ (t : List ℕ) (k : ℕ) (h : k < length t) where
  drop_two : (drop k t ≡ get_or t k 0 ∷ drop (suc k) t) × (get_or (drop (suc k) t) 0 0 ≡ get_or t (k + 1) 0)
  drop_two = (drop-cons t k 0 h, get_or-drop (suc k) t 0 0 ∙ ap (λ i. get_or t i 0) (omega arith))

  start-at : start (drop k t) ≡ start_by (get_or t k 0) (get_or t (k + 1) 0)
  start-at =
      let (d, e) = drop_two in
      let b = get_or t k 0 in
      let u = drop (suc k) t in
      rw (d, ← e) (rw (begins_two 47 42 b u refl, begins_two 47 47 b u refl, and_true (eqb b 34)))

  pub start-over : 47 < get_or t k 0 → S.Other ≡ start (drop k t)
  start-over o = rw (drop-cons t k 0 h) (sym (over_slash (get_or t k 0) (drop (suc k) t) o))

  pub start_slash : {s : ℕ} {r : Start} → get_or t k 0 ≡ 47 → s ≡ get_or t (k + 1) 0 → r ≡ slash_by (eqb s 42) (eqb s 47)
      → r ≡ start (drop k t)
  start_slash e f g = rw (start-at, e, ← f) g

  pub start-blank : {b : Bool} → b ≡ is_blank (get_or t k 0) → b ≡ true → S.Blank ≡ start (drop k t)
  start-blank e f = rw (start-at, ← e, f)

  pub start_quote : get_or t k 0 ≡ 34 → S.Quote ≡ start (drop k t)
  start_quote e = rw (start-at, e)

  pub start-other : {b : Bool} → (get_or t k 0 ≡ 47 → ⊥) → b ≡ is_blank (get_or t k 0) → b ≡ false → (get_or t k 0 ≡ 34 → ⊥)
      → S.Other ≡ start (drop k t)
  start-other s e f q = rw (start-at, ← e, f, ne_eqb (get_or t k 0) 47 s, ne_eqb (get_or t k 0) 34 q)

  -- what ends at place k, by a test of its bytes
  module _ {x : Bool} where
    pub comment-is : {s : ℕ} → s ≡ get_or t (k + 1) 0 → (eqb (get_or t k 0) 42 && eqb s 47) ≡ x → ends_comment (drop k t) ≡ x
    comment-is f g = let (d, e) = drop_two in rw (d, ← g, f, ← e) (begins_two 42 47 (get_or t k 0) (drop (suc k) t) refl)

    pub line-is : (eqb (get_or t k 0) 10 || eqb (get_or t k 0) 13) ≡ x → ends_line (drop k t) ≡ x
    line-is g = rw (drop-cons t k 0 h) g

  string-at : ends_string (drop k t) ≡ eqb (get_or t k 0) 34
  string-at = rw (drop-cons t k 0 h) (and_true (eqb (get_or t k 0) 34))

  pub string-is : get_or t k 0 ≡ 34 → ends_string (drop k t) ≡ true
  string-is e = string-at ∙ eq-eqb (get_or t k 0) 34 e

  pub string_not : (get_or t k 0 ≡ 34 → ⊥) → ends_string (drop k t) ≡ false
  string_not n = string-at ∙ ne_eqb (get_or t k 0) 34 n

pub word-is : (u : List ℕ) {s : Start} {b x : Bool} → s ≡ start u → b ≡ ends s → b ≡ x → ends_word u ≡ x
word-is u e f g = sym (f ∙ ap ends e) ∙ g

pub start-end : (t : List ℕ) (q : ℕ) → length t ≤ q → S.Nothing ≡ start (drop q t)
start-end t q h = rw (drop_of_length-le t h)

-- what starts at a place, and what ends there or not
pub ruleset starts = (rules, start-over, start_slash, start-blank, start_quote, start-other, start-end)

pub ruleset endings = (clear_word, clear_line, clear_string, clear_comment, word-is, line-is, string-is, string_not, comment-is)
