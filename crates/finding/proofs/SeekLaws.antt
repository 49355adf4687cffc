-- A search goes on byte by byte, or by a run of bytes at which what is sought cannot be.
use Prim.Native.Nat.{ℕ, zero, suc, ◌+◌, ◌-◌, ◌<◌, ◌≤◌}
use native.Mathlib.Omega.{arith}
use native.Mathlib.Numerals.{add-one}
use mathlib.Core.Path.{◌≡◌, refl, sym, ap, ◌∙◌, subst}
use mathlib.Core.Bool.{Bool, true, false, cond, ◌||◌}
use mathlib.Core.Option as M
use mathlib.Core.List.{List, [], ◌∷◌}
use lib.ListN.{length, drop, get_or, drop_of_length-le}
use lib.Seq.{drop-cons}
use lib.Dec.{ltb}
use borrow.Author.Tests.{lt-ltb, le-ltb}
use Rattle.words.specs.Parting.{one_more, find}
use Rattle.words.proofs.PieceLaws.{find-here}
use Rattle.runs.specs.Runs.{Run}
use Rattle.std.specs.declared.option.Option.{Option}
use Rattle.std.specs.Prelude.{Some, None, Result}
use Rattle.std.specs.Option.{unwrap_or, ok_or}
use Rattle.words.specs.declared.Wrong.{Wrong}
use Rattle.finding.specs.Finding.{later, Clear, FirstPlace, Sought, Closed, Seeking}
use Rattle.runs.proofs.RunLaws.{run_keeps}

later_more : (k : ℕ) (o : M.Option ℕ) → later k (one_more o) ≡ later (k + 1) o
later_more k M.none = refl
later_more k (M.some n) = ap M.some (omega arith)

later_zero : (o : M.Option ℕ) → later 0 o ≡ o
later_zero M.none = refl
later_zero (M.some n) = ap M.some (omega arith)

module _ {p : List ℕ → Bool} {t : List ℕ} where
  seek_first : {q : ℕ} → q ≤ length t → Seeking p t q q
  seek_first {q} h =
      let e : q - q ≡ 0 = omega arith in
      record { from = omega arith; to = h; is = rw e (sym (later_zero (find p (drop q t)))) }

  pub seek_on : {q k : ℕ} → Seeking p t q k → k < length t → p (drop k t) ≡ false → Seeking p t q (k + 1)
  seek_on {q} {k} s h e =
      let d : drop k t ≡ get_or t k 0 ∷ drop (suc k) t = drop-cons t k 0 h in
      let f : p (get_or t k 0 ∷ drop (suc k) t) ≡ false = rw d at e in
      let n : k + 1 - q ≡ k - q + 1 = omega arith in
      record {
        from = omega arith;
        to = omega arith;
        is = s.is ∙ rw (d, f) (rw (n, add-one k) (later_more (k - q) (find p (drop (suc k) t))));
      }

  pub seek_run : {f : ℕ → Bool} {q k : ℕ} → ((b : ℕ) (u : List ℕ) → f b ≡ false → p (b ∷ u) ≡ false) → Run f t q k → Seeking p t q k
  seek_run {q = q} clear g =
      run_keeps (Seeking p t q)
      (λ i h e s.
      let d : drop i t ≡ get_or t i 0 ∷ drop (suc i) t = drop-cons t i 0 h in
      rw (← add-one i) (seek_on s h (rw d (clear (get_or t i 0) (drop (suc i) t) e))))
      g (seek_first (omega (arith, g.from, g.to)))

  pub seek_found : {q k : ℕ} → Seeking p t q k → k < length t → p (drop k t) ≡ true → Sought p t q k
  seek_found {q} {k} s h e =
      record {
        from = s.from;
        to = s.to;
        is = s.is ∙ rw (find-here p (drop k t) e, lt-ltb k (length t) h) (ap M.some (omega arith));
      }

  pub seek_end : {q k : ℕ} → Seeking p t q k → length t ≤ k → Sought p t q k
  seek_end {q} {k} s h =
      record { from = s.from; to = s.to; is = s.is ∙ rw (drop_of_length-le t h, le-ltb k (length t) h) (by (p []) refl) }
    where
      by : (b : Bool) → p [] ≡ b → later (k - q) (cond b (M.some 0) M.none) ≡ cond b (M.some (k - q)) M.none
      by true e = ap M.some (omega arith)
      by false e = refl

  -- what is sought is not at place k, so the search may start behind it
  pub sought_before : {k r : ℕ} → k < length t → p (drop k t) ≡ false → Sought p t (k + 1) r → Sought p t k r
  sought_before {k} {r} h e s =
      let d : drop k t ≡ get_or t k 0 ∷ drop (suc k) t = drop-cons t k 0 h in
      let f : p (get_or t k 0 ∷ drop (suc k) t) ≡ false = rw d at e in
      let g : find p (drop (suc k) t) ≡ cond (ltb r (length t) || p []) (M.some (r - suc k)) M.none = rw (add-one k) at s.is in
      record { from = omega (arith, s.from); to = s.to; is = rw (d, f) (rw g (by (ltb r (length t) || p []))) }
    where
      by : (b : Bool) → one_more (cond b (M.some (r - suc k)) M.none) ≡ cond b (M.some (r - k)) M.none
      by true = ap M.some (omega (arith, s.from))
      by false = refl

-- what goes on by each place at which a test says no
pub clear_keeps : {Says : ℕ → Bool → Type 0} {k r : ℕ} (n : ℕ) (P : ℕ → Type 0) → ((i : ℕ) → i < n → Says i false → P i → P (i + 1))
    → Clear Says k r → k ≤ r → r ≤ n → P k → P r
clear_keeps {Says} {k} {r} n P step c l m = go (r - k) k (omega arith) (omega arith)
  where
    go : (d i : ℕ) → i + d ≡ r → k ≤ i → P i → P r
    go zero i e h x = subst P (omega arith) x
    go (suc d) i e h x = go d (i + 1) (omega arith) (omega arith) (step i (omega arith) (c.each i h (omega arith)) x)

-- the first place at which a test says yes that tells what is sought
module _ {Says : ℕ → Bool → Type 0} {p : List ℕ → Bool} {t : List ℕ} {q k : ℕ} (s : Seeking p t q k)
    (tells : (i : ℕ) (b : Bool) → i < length t → Says i b → p (drop i t) ≡ b) where
  seek_clear : {r : ℕ} → k ≤ r → r ≤ length t → Clear Says k r → Seeking p t q r
  seek_clear l m c = clear_keeps (length t) (Seeking p t q) (λ i h e g. seek_on g h (tells i false h e)) c l m s

  seek_place : {r : ℕ} → k ≤ r → r < length t → Says r true → Clear Says k r → Sought p t q r
  seek_place {r} l m e c = seek_found (seek_clear l (omega arith) c) m (tells r true m e)

  seek_nowhere : Clear Says k (length t) → Sought p t q (length t)
  seek_nowhere c = seek_end (seek_clear s.to (omega arith) c) (omega arith)

  pub sought_first : {o : Option ℕ} {r : ℕ} → FirstPlace Says k (length t) o → r ≡ unwrap_or o (length t) → Sought p t q r
  sought_first {o = None} c e = rw e (seek_nowhere c.is)
  sought_first {o = Some x} c e = rw e (seek_place c.is.0 c.is.1 c.is.2 c.is.3)

  pub closed_first : {o : Option ℕ} {r : Result ℕ Wrong} → FirstPlace Says k (length t) o → r ≡ ok_or o (record { place = length t })
      → Closed p t q r
  closed_first {o = None} c e = rw e (seek_nowhere c.is, refl)
  closed_first {o = Some x} c e = rw e (seek_place c.is.0 c.is.1 c.is.2 c.is.3, c.is.1)
