-- Tables: a test of all entries that is computed once, and a rule of numbers that gives what a table holds.
use Prim.Native.Nat.{ℕ, zero, suc, ◌<◌, ◌≤◌}
use native.Mathlib.Omega.{arith}
use mathlib.Core.Path.{◌≡◌}
use mathlib.Core.Bool.{Bool, true, ◌&&◌}
use mathlib.Core.List.{List, [], ◌∷◌, map}
use lib.ListN.{length, get_or}
use Rattle.layout.proofs.TestLaws.{and_left, and_right}

module _ {A : Type 0} where
  -- a test that every entry of a table passes
  abbrev pub all : (A → Bool) → List A → Bool
  all f [] = true
  all f (x ∷ xs) = f x && all f xs

  pub all-at : (f : A → Bool) (d : A) (xs : List A) (i : ℕ) → all f xs ≡ true → i < length xs → f (get_or xs i d) ≡ true
  all-at f d [] i e h = absurd (omega arith)
  all-at f d (x ∷ xs) zero e h = and_left (f x) (all f xs) e
  all-at f d (x ∷ xs) (suc i) e h = all-at f d xs i (and_right (f x) (all f xs) e) (omega arith)

  -- .. at every number, where what stands for no entry passes it too
  pub all-given : (f : A → Bool) (d : A) (xs : List A) (i : ℕ) → f d ≡ true → all f xs ≡ true → f (get_or xs i d) ≡ true
  all-given f d [] i o e = o
  all-given f d (x ∷ xs) zero o e = and_left (f x) (all f xs) e
  all-given f d (x ∷ xs) (suc i) o e = all-given f d xs i o (and_right (f x) (all f xs) e)

-- A rule of numbers against a table: what it gives at the numbers of the entries, in one list
module _ {A B : Type 0} where
  abbrev pub along : (ℕ → B) → List A → List B
  along g [] = []
  along g (x ∷ xs) = g 0 ∷ along (λ n. g (suc n)) xs

  -- if these are what f makes of the entries, and beyond the table it gives what f makes of no entry, then so it is at every number
  pub by_number : (f : A → B) (g : ℕ → B) (d : A) (xs : List A) (n : ℕ) → along g xs ≡ map f xs
      → ((k : ℕ) → length xs ≤ k → g k ≡ f d) → g n ≡ f (get_or xs n d)
  by_number f g d [] n e o = o n (omega arith)
  by_number f g d (x ∷ xs) zero e o = cc
  by_number f g d (x ∷ xs) (suc n) e o = by_number f (λ k. g (suc k)) d xs n (cc) (λ k h. o (suc k) (omega arith))

-- two rules that agree at every entry of a table, and at what stands for no entry, agree at every number
pub alike : {A B : Type 0} (f g : A → B) (d : A) (xs : List A) (i : ℕ) → f d ≡ g d → map f xs ≡ map g xs → f (get_or xs i d) ≡ g (get_or xs i d)
alike f g d [] i o e = o
alike f g d (x ∷ xs) zero o e = cc
alike f g d (x ∷ xs) (suc i) o e = alike f g d xs i o cc
