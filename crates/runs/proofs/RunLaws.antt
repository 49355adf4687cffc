-- A run is passed eight by eight, and what each of its bytes keeps the whole run keeps.
use Prim.Native.Nat.{ℕ, zero, suc, ◌+◌, ◌-◌, ◌<◌, ◌≤◌}
use native.Mathlib.Omega.{arith}
use mathlib.Core.Path.{◌≡◌, refl, sym, ap, subst}
use mathlib.Core.Bool.{Bool, true, false, true≢false, ◌||◌}
use mathlib.Core.List.{List, [], ◌∷◌}
use lib.ListN.{length, drop, get_or, length-drop}
use lib.Seq.{slice, slice_empty, slice-cons}
use Rattle.std.specs.Array.{IsFirstChunk}
use Rattle.std.proofs.Common.{inl, inr, ◌⊎◌}
use Rattle.std.proofs.lemmas.Bool.{cases_lt}
use Rattle.std.proofs.lemmas.List.{get_or-take, get_or-drop}
use Rattle.runs.specs.Runs.{or_some, some, Passed, Run}

neither : (a b : Bool) → (a || b) ≡ false → (a ≡ false) × (b ≡ false)
neither true b e = absurd (true≢false e)
neither false b e = (refl, e)

module _ (f : ℕ → Bool) where
  some_first : (x : Bool) (s : List ℕ) → or_some x f s ≡ false → x ≡ false
  some_first x [] e = e
  some_first x (b ∷ s) e = (neither x (f b) (some_first (x || f b) s e)).0

  some_cons : (b : ℕ) (s : List ℕ) → some f (b ∷ s) ≡ false → (f b ≡ false) × (some f s ≡ false)
  some_cons b s e = let x : f b ≡ false = some_first (f b) s e in (x, rw x at e)

  some_next : (b : ℕ) (s : List ℕ) → f b ≡ false → some f s ≡ false → some f (b ∷ s) ≡ false
  some_next b s e h = subst (λ x. or_some x f s ≡ false) (sym e) h

module _ {f : ℕ → Bool} {t : List ℕ} where
  -- by its bytes
  pub run_passed : {Such : ℕ → Type 0} {q r : ℕ} → ((b : ℕ) → Such b → f b ≡ false) → Passed Such t q r → Run f t q r
  run_passed {q = q} {r = r} such p = record { from = p.from; to = p.to; is = go (r - q) q (omega (arith, p.from)) (omega arith) }
    where
      go : (n i : ℕ) → i + n ≡ r → q ≤ i → some f (slice i r t) ≡ false
      go zero i e l = let k : i ≡ r = omega arith in rw (k, slice_empty r t)
      go (suc n) i e l =
          rw (slice-cons i r t 0 (omega arith) p.to)
          (some_next f (get_or t i 0) (slice (suc i) r t) (such (get_or t i 0) (p.each i l (omega arith))) (go n (suc i) (omega arith) (omega arith)))

  pub run_keeps : {q k : ℕ} (P : ℕ → Type 0) → ((i : ℕ) → i < length t → f (get_or t i 0) ≡ false → P i → P (suc i))
      → Run f t q k → P q → P k
  run_keeps {q} {k} P step g = go (k - q) q (omega (arith, g.from)) g.is
    where
      go : (n i : ℕ) → i + n ≡ k → some f (slice i k t) ≡ false → P i → P k
      go zero i e s x = subst P (omega arith) x
      go (suc n) i e s x =
          let h : i < length t = omega (arith, g.to) in
          let (a, b) = some_cons f (get_or t i 0) (slice (suc i) k t) (rw (slice-cons i k t 0 (omega arith) g.to) at s) in
          go n (suc i) (omega arith) b (step i h a x)

-- some bytes more of that kind
pub pass_on : {Such : ℕ → Type 0} {t xs bs : List ℕ} {q k n : ℕ} → Passed Such t q k → IsFirstChunk xs bs n → xs ≡ drop k t → k ≤ length t
    → ((i : ℕ) → i < n → Such (get_or bs i 0)) → Passed Such t q (k + n)
pass_on {Such} {t} {xs} {bs} {q} {k} {n} p c e h such =
    record {
      from = omega (arith, p.from);
      to = omega (arith, length-drop k t, ap length e, c.enough);
      each = each;
    }
  where
    at : (i : ℕ) → i < n → get_or bs i 0 ≡ get_or t (k + i) 0
    at i l = rw (c.same, get_or-take n xs i 0 l, e, get_or-drop k t i 0)

    each : (i : ℕ) → q ≤ i → i < k + n → Such (get_or t i 0)
    each i l m = by (cases_lt i k)
      where
        by : (i < k) ⊎ (k ≤ i) → Such (get_or t i 0)
        by (inl a) = p.each i l a
        by (inr a) =
            let j : k + (i - k) ≡ i = omega arith in
            subst (λ x. Such (get_or t x 0)) j (subst Such (at (i - k) (omega arith)) (such (i - k) (omega arith)))

pub passed_as : {Such These : ℕ → Type 0} {t : List ℕ} {q r : ℕ} → ((b : ℕ) → Such b → These b) → Passed Such t q r → Passed These t q r
passed_as {t = t} f p = record { from = p.from; to = p.to; each = λ i l m. f (get_or t i 0) (p.each i l m) }
