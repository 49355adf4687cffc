-- What an answer about a setting tells; and the numbers of its header, by tests over all headers that are computed.
use Prim.Native.Nat.{ℕ, ◌<◌, ◌≤◌}
use native.Mathlib.Omega.{arith}
use mathlib.Core.Path.{◌≡◌, refl}
use mathlib.Core.Bool.{Bool, true, false, ◌||◌}
use mathlib.Core.List.{List}
use Rattle.std.specs.Prelude.{Some, None}
use lib.ListN.{get_or}
use lib.Dec.{leb, eqb}
use borrow.Author.Tests.{leb-true, eqb-true, ne_eqb}
use Rattle.layout.proofs.TableLaws.{all, all-given}
use Rattle.plan.specs.declared.Plan.{Plan}
use Rattle.plan.specs.Plan.{planned}

pub was_sound : (b : Bool) (whole : Plan) {p : Plan} → Some p ≡ planned b whole → (b ≡ true) × (p ≡ whole)
was_sound true whole e = (refl, cc)
was_sound false whole e = let z : ◌≡◌ {A = ℕ} 0 1 = cc in absurd (omega arith)

pub was_unsound : (b : Bool) (whole : Plan) → None ≡ planned b whole → b ≡ false
was_unsound true whole e = let z : ◌≡◌ {A = ℕ} 0 1 = cc in absurd (omega arith)
was_unsound false whole e = refl

module _ {A : Type 0} (d : A) (xs : List A) where
  -- what is at most something else in every entry
  pub at_most : (f g : A → ℕ) → leb (f d) (g d) ≡ true → all (λ x. leb (f x) (g x)) xs ≡ true
      → (i : ℕ) → f (get_or xs i d) ≤ g (get_or xs i d)
  at_most f g o e i = leb-true _ _ (all-given (λ x. leb (f x) (g x)) d xs i o e)

  -- what is the same in every entry that has some w
  pub where_some : (w f g : A → ℕ) → eqb (w d) 0 || eqb (f d) (g d) ≡ true → all (λ x. eqb (w x) 0 || eqb (f x) (g x)) xs ≡ true
      → (i : ℕ) → 0 < w (get_or xs i d) → f (get_or xs i d) ≡ g (get_or xs i d)
  where_some w f g o e i l =
      let t = all-given (λ x. eqb (w x) 0 || eqb (f x) (g x)) d xs i o e in
      eqb-true _ _ (rw (ne_eqb (w (get_or xs i d)) 0 (omega arith)) at t)
