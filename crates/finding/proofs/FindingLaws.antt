-- The piece at a place, from what starts there and where it ends; and the next word, found piece by piece.
use Prim.Native.Nat.{ℕ, ◌+◌, ◌-◌, ◌<◌, ◌≤◌}
use borrow.Author.Rules.{rules}
use native.Mathlib.Omega.{arith}
use native.Mathlib.Numerals.{add-one}
use mathlib.Core.Path.{◌≡◌, refl, sym, ap, ◌∙◌}
use mathlib.Core.Bool.{Bool, true, false, cond, ◌||◌}
use mathlib.Core.Option.{none, some}
use mathlib.Core.List.{List, []}
use lib.ListN.{length, take, drop, get_or, length-drop, length-append}
use lib.Seq.{slice, length-take-le, take-add, drop_at, drop-drop}
use lib.Dec.{eqb, ltb}
use borrow.Author.Tests.{lt-ltb, le-ltb, eqb-true, not-false}
use Rattle.words.specs.declared.Start.{Start}
use Rattle.words.specs.declared.Start.TheVariants as S
use Rattle.std.specs.declared.option.Option as O
use Rattle.std.specs.Prelude.{Some, None, Ok, Err}
use Rattle.std.specs.Option.{unwrap_or}
use Rattle.words.specs.declared.Wrong.{Wrong}
use Rattle.words.specs.Words.{is_blank, start, ends, ends_word, ends_line}
use Rattle.words.specs.Parting.{Piece, find, up_to, piece}
use Rattle.runs.specs.Runs.{other, Run}
use Rattle.finding.specs.Finding.{ends_comment, ends_string, Clear, First, FirstPlace, Sought, Closed, Passing, Next, NextWord}
use Rattle.words.proofs.PieceLaws.{Started, started, Seen, see}
use Rattle.words.proofs.PartLaws.{word_some, parting_eq}
use Rattle.runs.proofs.RunLaws.{run_keeps}
use Rattle.finding.proofs.SeekLaws.{sought_before, clear_keeps}
use Rattle.finding.proofs.StartLaws.{start-blank}

---- The piece at a place -------------------------------------------------------------------------------------------------------

-- what a search comes to
up_to_is : {p : List ℕ → Bool} {t : List ℕ} {k r : ℕ} (made : ℕ → Piece) → Sought p t k r
    → up_to made (find p (drop k t)) ≡ cond (ltb r (length t) || p []) (made (r - k)) Piece.unclosed
up_to_is {p} {t} {k} {r} made s = rw s.is (by (ltb r (length t) || p []))
  where
    by : (b : Bool) → up_to made (cond b (some (r - k)) none) ≡ cond b (made (r - k)) Piece.unclosed
    by true = refl
    by false = refl

or_false : (a : Bool) → (a || false) ≡ a
or_false true = refl
or_false false = refl

or_true : (a : Bool) → (a || true) ≡ true
or_true true = refl
or_true false = refl

module _ (t : List ℕ) (k : ℕ) where
  piece-blank : S.Blank ≡ start (drop k t) → piece (drop k t) ≡ Piece.passed (k + 1 - k)
  unfolding piece
  piece-blank e = let n : k + 1 - k ≡ 1 = omega arith in rw (← e, n)

  module _ {r : ℕ} where
    piece-comment : S.Comment ≡ start (drop k t) → Sought ends_comment t (k + 2) r
        → piece (drop k t) ≡ cond (ltb r (length t)) (Piece.passed (r + 2 - k)) Piece.unclosed
    unfolding piece
    piece-comment e s =
        let n : r - (k + 2) + 4 ≡ r + 2 - k = omega (arith, s.from) in
        rw (← e, drop-drop 2 k t) (up_to_is (λ n. Piece.passed (n + 4)) s ∙ rw (or_false (ltb r (length t)), n))

    piece-string : S.Quote ≡ start (drop k t) → Sought ends_string t (k + 1) r
        → piece (drop k t) ≡ cond (ltb r (length t)) (Piece.taken (r + 1 - k)) Piece.unclosed
    unfolding piece
    piece-string e s =
        let n : r - (k + 1) + 2 ≡ r + 1 - k = omega (arith, s.from) in
        rw (← e, drop-drop 1 k t) (up_to_is (λ n. Piece.taken (n + 2)) s ∙ rw (or_false (ltb r (length t)), n))

    piece-line : S.Line ≡ start (drop k t) → Sought ends_line t (k + 2) r → piece (drop k t) ≡ Piece.passed (r - k)
    unfolding piece
    piece-line e s =
        let n : r - (k + 2) + 2 ≡ r - k = omega (arith, s.from) in
        rw (← e, drop-drop 2 k t) (up_to_is (λ n. Piece.passed (n + 2)) s ∙ rw (or_true (ltb r (length t)), n))

    piece-other : S.Other ≡ start (drop k t) → k < length t → Sought ends_word t (k + 1) r → piece (drop k t) ≡ Piece.taken (r - k)
    unfolding piece
    piece-other e h s = rw (← e) (up_to_is Piece.taken (sought_before h (ap ends (sym e)) s) ∙ rw (or_true (ltb r (length t))))

  piece-end : S.Nothing ≡ start (drop k t) → piece (drop k t) ≡ Piece.done
  unfolding piece
  piece-end e = rw (← e)

-- the bytes that a start has at least
abbrev least : Start → ℕ
least S.Nothing = 0
least S.Blank = 1
least S.Comment = 2
least S.Line = 2
least S.Quote = 1
least S.Other = 1

least-length : {u : List ℕ} {s : Start} → Started u s → least s ≤ length u
least-length Started.nothing = omega arith
least-length (Started.blank b e) = omega arith
least-length Started.comment = omega arith
least-length Started.line = omega arith
least-length Started.quote = omega arith
least-length (Started.other e) = omega arith

room : (t : List ℕ) (k : ℕ) {s : Start} → s ≡ start (drop k t) → least s ≤ length t - k
room t k e = rw (e, ← length-drop k t) (least-length (started (drop k t)))

---- The next word --------------------------------------------------------------------------------------------------------------

abbrev pub found : ℕ → ℕ → Next
found from to = Ok (Some (record { from = from; to = to }))

gap_length : {u : List ℕ} {n : ℕ} → Seen u (Piece.passed n) → n ≤ length u
gap_length (Seen.passed {s = s} {t = t} g e) = omega (arith, length-append s t)

word-length : {u : List ℕ} {n : ℕ} → Seen u (Piece.taken n) → (0 < n) × (n ≤ length u)
word-length (Seen.taken {s = s} {t = t} w e) = (omega (arith, word_some w), omega (arith, length-append s t))

pub pass-first : {t : List ℕ} {q : ℕ} → q ≤ length t → Passing t q q
pass-first h = record { from = omega arith; to = h; is = refl }

pass_both : {t : List ℕ} {q k r : ℕ} → Passing t q k → Passing t k r → Passing t q r
pass_both g h = record { from = omega (arith, g.from, h.from); to = h.to; is = g.is ∙ h.is }

module _ {t : List ℕ} {q k : ℕ} (g : Passing t q k) where
  -- a gap up to place r
  pass-gap : {r : ℕ} → k ≤ r → piece (drop k t) ≡ Piece.passed (r - k) → Passing t q r
  pass-gap {r} h e =
      let b = gap_length (rw e at (see (drop k t))) in
      let n : k + (r - k) ≡ r = omega arith in
      record {
        from = omega (arith, g.from);
        to = omega (arith, length-drop k t, g.to);
        is = g.is ∙ parting_eq k (drop k t) ∙ rw (e, drop-drop (r - k) k t, n);
      }

  -- a word up to place r
  pass-word : {r : ℕ} → k ≤ r → piece (drop k t) ≡ Piece.taken (r - k) → NextWord t q (found k r)
  pass-word {r} h e =
      let (a, b) = word-length (rw e at (see (drop k t))) in
      let n : k + (r - k) ≡ r = omega arith in
      let l : length (take k t) ≡ k = length-take-le k t g.to in
      let m : slice k (k + (r - k)) t ≡ take (r - k) (drop k t) = rw (take-add k (r - k) t) (drop_at (take k t) (take (r - k) (drop k t)) k l) in
      record {
        is = g.is ∙ parting_eq k (drop k t) ∙ rw (e, drop-drop (r - k) k t, ← m, n);
        within = (g.from, omega arith, omega (arith, length-drop k t, g.to));
      }

  pass-cut : {e : Wrong} → piece (drop k t) ≡ Piece.unclosed → e.place ≡ length t → NextWord t q (Err e)
  pass-cut u h = record { is = g.is ∙ parting_eq k (drop k t) ∙ rw u; within = h }

  pub pass-blank : {b : Bool} → k < length t → b ≡ is_blank (get_or t k 0) → b ≡ true → Passing t q (k + 1)
  pass-blank h e f = pass-gap (omega arith) (piece-blank t k (start-blank t k h e f))

  -- by what starts at place k
  module _ {x : Start} (w : x ≡ start (drop k t)) where
    pub pass-end : x ≡ S.Nothing → NextWord t q (Ok None)
    pass-end e = record { is = g.is ∙ parting_eq k (drop k t) ∙ rw (piece-end t k (sym e ∙ w)); within = tt }

    module _ {r : ℕ} where
      pub pass_blanks : x ≡ S.Blank → Passing t (k + 1) r → Passing t q r
      pass_blanks e h = pass_both (pass-gap (omega arith) (piece-blank t k (sym e ∙ w))) h

      pub pass-comment : x ≡ S.Comment → Closed ends_comment t (k + 2) (Ok r) → Passing t q (r + 2)
      pass-comment e s = pass-gap (omega (arith, s.0.from)) (piece-comment t k (sym e ∙ w) s.0 ∙ rw (lt-ltb r (length t) s.1))

      pub pass-line : x ≡ S.Line → Sought ends_line t (k + 2) r → Passing t q r
      pass-line e s = pass-gap (omega (arith, s.from)) (piece-line t k (sym e ∙ w) s)

      pub pass-string : x ≡ S.Quote → Closed ends_string t (k + 1) (Ok r) → NextWord t q (found k (r + 1))
      pass-string e s = pass-word (omega (arith, s.0.from)) (piece-string t k (sym e ∙ w) s.0 ∙ rw (lt-ltb r (length t) s.1))

      pub pass-other : x ≡ S.Other → Sought ends_word t (k + 1) r → NextWord t q (found k r)
      pass-other e s = pass-word (omega (arith, s.from)) (piece-other t k (sym e ∙ w) (omega (arith, room t k (sym e ∙ w))) s)

    module _ {y : Wrong} where
      pub cut-comment : x ≡ S.Comment → Closed ends_comment t (k + 2) (Err y) → NextWord t q (Err y)
      cut-comment e s = pass-cut (piece-comment t k (sym e ∙ w) s.0 ∙ rw (le-ltb y.place (length t) (omega (arith, s.1)))) s.1

      pub cut-string : x ≡ S.Quote → Closed ends_string t (k + 1) (Err y) → NextWord t q (Err y)
      cut-string e s = pass-cut (piece-string t k (sym e ∙ w) s.0 ∙ rw (le-ltb y.place (length t) (omega (arith, s.1)))) s.1

-- a piece that starts has its bytes
pub pass-room : (x : Start) {t : List ℕ} {q k : ℕ} {s : Start} → Passing t q k → s ≡ start (drop k t) → s ≡ x → k + least x ≤ length t
pass-room x {t} {k = k} g w e = omega (arith, room t k (sym e ∙ w), g.to)

-- a run of 32
pub pass_run : {t : List ℕ} {q k : ℕ} → Run (other 32) t q k → Passing t q k
pass_run {t} {q} g =
    run_keeps (Passing t q)
    (λ i h e s.
    let b : get_or t i 0 ≡ 32 = eqb-true (get_or t i 0) 32 (not-false (eqb (get_or t i 0) 32) e) in
    rw (← add-one i) (pass-blank s h (rw b) refl))
    g (pass-first (omega (arith, g.from, g.to)))

-- the first place at which no blank stands
pub passing_first : {Says : ℕ → Bool → Type 0} {t : List ℕ} {q k r : ℕ} {o : O.Option ℕ} → Passing t q k
    → ((i : ℕ) → i < length t → Says i false → is_blank (get_or t i 0) ≡ true) → FirstPlace Says k (length t) o → r ≡ unwrap_or o (length t)
    → Passing t q r
passing_first {Says} {t} {q} {k} {o = o} g blank f e = rw e (by o f.is)
  where
    on : {r : ℕ} → k ≤ r → r ≤ length t → Clear Says k r → Passing t q r
    on l m c = clear_keeps (length t) (Passing t q) (λ i h x s. pass-blank s h (sym (blank i h x)) refl) c l m g

    by : (o : O.Option ℕ) → First Says k (length t) o → Passing t q (unwrap_or o (length t))
    by None c = on g.to (omega arith) c
    by (Some x) c = on c.0 (omega (arith, c.1)) c.3

pub ruleset gaps = (pass-first, pass_run, pass-blank, pass_blanks, pass-comment, pass-line)

pub ruleset passes = (rules, gaps, pass-end, cut-comment, pass-string, cut-string, pass-other)
