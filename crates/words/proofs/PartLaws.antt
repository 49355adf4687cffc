-- Every text parts into words, and in one way only.
use Prim.Native.Nat.{ℕ, zero, suc, ◌+◌, ◌<◌}
use native.Mathlib.Omega.{arith}
use mathlib.Core.Path.{◌≡◌, refl, sym, ap, ◌∙◌, subst₂, subst₃}
use mathlib.Core.Bool.{Bool}
use mathlib.Core.List.{List, ◌∷◌, ◌++◌}
use lib.ListN.{length, length-append}
use lib.Seq.{take_at, drop_at}
use Rattle.words.specs.Words.{Gap, IsWord, Word, Parts}
use Rattle.words.specs.Parting.{Piece, piece, Parted, after, pieces, parting}
use Rattle.words.proofs.PieceLaws.{Seen, see, is}

-- the text parts as r says
abbrev pub PartsAs : ℕ → List ℕ → Parted → Type 0
PartsAs q t r = Parts q t r.words r.closed

pub gap-some : {t s : List ℕ} → Gap t s → 0 < length s
gap-some (Gap.blank b e) = omega arith
gap-some (Gap.comment r) = omega arith
gap-some (Gap.line r) = omega arith

pub word_some : {t s : List ℕ} → IsWord t s → 0 < length s
word_some (IsWord.string r) = omega arith
word_some (IsWord.other r) = omega arith

-- a piece as the rules have it, and a parting of what is behind it
after-parts : (go : ℕ → List ℕ → Parted) (f q : ℕ) → ((k : ℕ) (u : List ℕ) → length u < f → PartsAs k u (go k u))
    → {t : List ℕ} {p : Piece} → Seen t p → length t < suc f → PartsAs q t (after go q t p)
after-parts go f q rest Seen.done h = Parts.clean
after-parts go f q rest (Seen.unclosed u) h = Parts.cut u
after-parts go f q rest (Seen.passed {s = s} {t = t} g e) h =
    subst₂ (λ m u. PartsAs q (s ++ t) (go m u)) (ap (q +◌) e) (sym (drop_at s t _ e))
    (Parts.gap g (rest (q + length s) t (omega (arith, gap-some g, length-append s t))))
after-parts go f q rest (Seen.taken {s = s} {t = t} {n = n} w e) h =
    let r : PartsAs (q + length s) t (go (q + length s) t) = rest (q + length s) t (omega (arith, word_some w, length-append s t)) in
    subst₃ (λ m u v. Parts q (s ++ t) (record { at = q; text = v } ∷ (go m u).words) (go m u).closed)
    (ap (q +◌) e) (sym (drop_at s t n e)) (sym (take_at s t n e)) (Parts.word w r)

pieces_part : (f q : ℕ) (t : List ℕ) → length t < f → PartsAs q t (pieces f q t)
unfolding pieces
pieces_part zero q t h = absurd (omega arith)
pieces_part (suc f) q t h = after-parts (pieces f) f q (pieces_part f) (see t) h

pieces_are : (f q : ℕ) {t : List ℕ} {ws : List Word} {c : Bool} → length t < f → Parts q t ws c
    → pieces f q t ≡ record { words = ws; closed = c }
unfolding pieces
pieces_are zero q h r = absurd (omega arith)
pieces_are (suc f) q h Parts.clean = rw (is Seen.done)
pieces_are (suc f) q h (Parts.cut u) = rw (is (Seen.unclosed u))
pieces_are (suc f) q h (Parts.gap {s = s} {t = t} g r) =
    rw (is (Seen.passed g refl), drop_at s t (length s) refl) (pieces_are f (q + length s) (omega (arith, gap-some g, length-append s t)) r)
pieces_are (suc f) q h (Parts.word {s = s} {t = t} w r) =
    rw (is (Seen.taken w refl), drop_at s t (length s) refl, take_at s t (length s) refl)
    (rw (pieces_are f (q + length s) (omega (arith, word_some w, length-append s t)) r))

-- every text parts, as the function says
pub parts : (q : ℕ) (t : List ℕ) → PartsAs q t (parting q t)
unfolding parting
parts q t = pieces_part (suc (length t)) q t (omega arith)

-- and in no other way
pub parting-is : {q : ℕ} {t : List ℕ} {ws : List Word} {c : Bool} → Parts q t ws c → parting q t ≡ record { words = ws; closed = c }
unfolding parting
parting-is {q} {t} r = pieces_are (suc (length t)) q (omega arith) r

pub parts_unique : {q : ℕ} {t : List ℕ} {vs ws : List Word} {c d : Bool} → Parts q t vs c → Parts q t ws d → (vs ≡ ws) × (c ≡ d)
parts_unique a b = let e = sym (parting-is a) ∙ parting-is b in (ap (λ r. r.words) e, ap (λ r. r.closed) e)

-- the function, by its piece: nothing here knows of a bound on the pieces
pub parting_eq : (q : ℕ) (t : List ℕ) → parting q t ≡ after parting q t (piece t)
parting_eq q t = parting-is (after-parts parting (length t) q (λ k u h. parts k u) (see t) (omega arith))
