-- A goal by the cases of a test, where it stands.
use Prim.Native.Nat.{ℕ, ◌<◌, ◌≤◌}
use mathlib.Core.Path.{◌≡◌, refl}
use mathlib.Core.Bool.{Bool, true, false}
use lib.Dec.{ltb}
use borrow.Author.Tests.{ltb-true, ltb-false}

module _ {P : Type 0} where
  pub by_test : (b : Bool) → (b ≡ true → P) → (b ≡ false → P) → P
  by_test true pass fail = pass refl
  by_test false pass fail = fail refl

  pub by_less : (x y : ℕ) → (x < y → P) → (y ≤ x → P) → P
  by_less x y pass fail = by_test (ltb x y) (λ g. pass (ltb-true x y g)) (λ g. fail (ltb-false x y g))
