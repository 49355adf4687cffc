-- Packets in joined bytes, tests on their lengths, and the least index at which a test passes.
use Rattle.std.proofs.Common.{◌≡◌, ℕ, zero, suc, ◌<◌, ◌≤◌, Bool, true, false, cond, not, ◌||◌, eqb, ltb, List, []}
use Rattle.std.proofs.Common.{◌∷◌, map, length, get_or, take, drop, refl, ap, arith}
use Rattle.std.proofs.Common.{length-drop, take-append-drop, length-take, ltb-false, ltb-true, eqb-true}
use borrow.Author.Tests.{eqb-false}
use Rattle.layout.proofs.TestLaws.{Tells, Tells.passes, Tells.fails, why_passed, why_failed, passed, failed}
use Rattle.packet.specs.Limit.{most_lengths}
use Rattle.packet.specs.Packets.{sum, joined, packets, mismatched, Matched, Mismatch, Mismatch.many, Mismatch.differs, first}

---- Lengths --------------------------------------------------------------------------------------------------------------------

-- the packets have the lengths given
pub packets_lengths : (ns bs : List ℕ) → sum ns ≡ length bs → map length (packets ns bs) ≡ ns
unfolding packets
packets_lengths [] bs e = refl
packets_lengths (n ∷ ns) bs e =
    let a : length (take n bs) ≡ n = rw length-take (omega arith) in
    let b : sum ns ≡ length (drop n bs) = rw length-drop (omega arith) in
    rw (a, packets_lengths ns (drop n bs) b)

-- and joined they are the bytes
pub packets-joined : (ns bs : List ℕ) → sum ns ≡ length bs → joined (packets ns bs) ≡ bs
unfolding packets
packets-joined [] [] e = refl
packets-joined [] (b ∷ bs) e = absurd (omega arith)
packets-joined (n ∷ ns) bs e =
    let d : sum ns ≡ length (drop n bs) = rw length-drop (omega arith) in
    rw (packets-joined ns (drop n bs) d) (take-append-drop n bs)

pub length-packets : (ns bs : List ℕ) → length (packets ns bs) ≡ length ns
unfolding packets
length-packets [] bs = refl
length-packets (n ∷ ns) bs = ap suc (length-packets ns (drop n bs))

-- the test on the lengths, as what it tells
module _ (ns bs : List ℕ) where
  pub mismatch_tells : Tells (Mismatch ns bs) (Matched ns bs) (mismatched ns bs)
  unfolding mismatched
  mismatch_tells = at (ltb most_lengths (length ns)) (eqb (sum ns) (length bs)) refl refl
    where
      at : (a b : Bool) → ltb most_lengths (length ns) ≡ a → eqb (sum ns) (length bs) ≡ b → Tells (Mismatch ns bs) (Matched ns bs) (a || not b)
      at true b ga gb = passes (many (ltb-true most_lengths (length ns) ga))
      at false true ga gb = fails (record { few = ltb-false most_lengths (length ns) ga; same = eqb-true (sum ns) (length bs) gb })
      at false false ga gb = passes (differs (eqb-false (sum ns) (length bs) gb))

  pub not_both : Mismatch ns bs → Matched ns bs → ⊥
  not_both (many h) m = omega (arith, m.few)
  not_both (differs h) m = h m.same

---- The least index ------------------------------------------------------------------------------------------------------------

module _ {A : Type 0} (f : A → Bool) (d : A) where
  -- a test passes at none of the first i entries
  abbrev NoneBefore : List A → ℕ → Type 0
  NoneBefore xs i = (j : ℕ) → j < i → f (get_or xs j d) ≡ false

  tail_none : (x : A) (xs : List A) (i : ℕ) → NoneBefore (x ∷ xs) (suc i) → NoneBefore xs i
  tail_none x xs i h j l = h (suc j) (omega arith)

  cons_none : (x : A) (xs : List A) (i : ℕ) → f x ≡ false → NoneBefore xs i → NoneBefore (x ∷ xs) (suc i)
  cons_none x xs i e h zero l = e
  cons_none x xs i e h (suc j) l = h j (omega arith)

  -- the least index is one at which the test passes, and none before it is
  first-before : (xs : List A) → NoneBefore xs (first f xs)
  unfolding first
  first-before [] = λ j l. absurd (omega arith)
  first-before (x ∷ xs) = at (f x) refl (first-before xs)
    where
      at : (b : Bool) → f x ≡ b → NoneBefore xs (first f xs) → NoneBefore (x ∷ xs) (cond b 0 (suc (first f xs)))
      at true e h = λ j l. absurd (omega arith)
      at false e h = cons_none x xs (first f xs) e h

  first_passes : (xs : List A) → first f xs < length xs → f (get_or xs (first f xs) d) ≡ true
  unfolding first
  first_passes [] = λ l. absurd (omega arith)
  first_passes (x ∷ xs) = at (f x) refl (first_passes xs)
    where
      at : (b : Bool) → f x ≡ b → (first f xs < length xs → f (get_or xs (first f xs) d) ≡ true)
          → cond b 0 (suc (first f xs)) < length (x ∷ xs) → f (get_or (x ∷ xs) (cond b 0 (suc (first f xs))) d) ≡ true
      at true e h l = e
      at false e h l = h (omega arith)

  -- and the only such index
  first-is : (xs : List A) (i : ℕ) → i < length xs → NoneBefore xs i → f (get_or xs i d) ≡ true → first f xs ≡ i
  unfolding first
  first-is [] i l h e = absurd (omega arith)
  first-is (x ∷ xs) zero l h e = rw e
  first-is (x ∷ xs) (suc i) l h e = rw (h 0 (omega arith)) (ap suc (first-is xs i (omega arith) (tail_none x xs i h) e))

  first-none : (xs : List A) → NoneBefore xs (length xs) → first f xs ≡ length xs
  unfolding first
  first-none [] h = refl
  first-none (x ∷ xs) h = rw (h 0 (omega arith)) (ap suc (first-none xs (tail_none x xs (length xs) h)))

-- the same of a test that tells the entries with N from those with P
module _ {A : Type 0} {N P : A → Type 0} (f : A → Bool) (tells : (x : A) → Tells (N x) (P x) (f x)) (d : A) (xs : List A) where
  pub fit-before : (i : ℕ) → i ≤ first f xs → (j : ℕ) → j < i → P (get_or xs j d)
  fit-before i h j l = why_failed (tells (get_or xs j d)) (first-before f d xs j (omega arith))

  pub unfit-there : first f xs < length xs → N (get_or xs (first f xs) d)
  unfit-there l = why_passed (tells (get_or xs (first f xs) d)) (first_passes f d xs l)

  module _ (never : (x : A) → N x → P x → ⊥) where
    none_before : (i : ℕ) → ((j : ℕ) → j < i → P (get_or xs j d)) → NoneBefore f d xs i
    none_before i h j l = failed (never (get_or xs j d)) (tells (get_or xs j d)) (h j l)

    pub index_is : (i : ℕ) → i < length xs → ((j : ℕ) → j < i → P (get_or xs j d)) → N (get_or xs i d) → first f xs ≡ i
    index_is i l h u = first-is f d xs i l (none_before i h) (passed (never (get_or xs i d)) (tells (get_or xs i d)) u)

    pub index_none : ((j : ℕ) → j < length xs → P (get_or xs j d)) → first f xs ≡ length xs
    index_none h = first-none f d xs (none_before (length xs) h)

---- Every entry ----------------------------------------------------------------------------------------------------------------

module _ {A : Type 0} (P : A → Type 0) where
  abbrev pub Each : List A → Type 0
  Each [] = Unit {0}
  Each (x ∷ xs) = P x × Each xs

  pub each : (d : A) (xs : List A) → ((j : ℕ) → j < length xs → P (get_or xs j d)) → Each xs
  each d [] h = tt
  each d (x ∷ xs) h = (h 0 (omega arith), each d xs (λ j l. h (suc j) (omega arith)))

-- what holds of every length holds of every packet's
pub each_length : (P : ℕ → Type 0) (bs : List (List ℕ)) → Each P (map length bs) → Each (λ b. P (length b)) bs
each_length P [] h = tt
each_length P (b ∷ bs) h = (h.0, each_length P bs h.1)
