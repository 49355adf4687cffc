-- Tests joined by && and ||, and tests that tell two facts apart.
use Prim.Native.Nat.{ℕ}
use native.Mathlib.Omega.{arith}
use mathlib.Core.Path.{◌≡◌, refl, sym}
use mathlib.Core.Bool.{Bool, true, false, ◌&&◌, ◌||◌}

pub and_left : (a b : Bool) → a && b ≡ true → a ≡ true
and_left true b e = refl
and_left false b e = e

pub and_right : (a b : Bool) → a && b ≡ true → b ≡ true
and_right true b e = e
and_right false b e = let z : true ≡ false = sym e in cc

pub or_left : (a b : Bool) → a || b ≡ false → a ≡ false
or_left true b e = e
or_left false b e = refl

pub or_right : (a b : Bool) → a || b ≡ false → b ≡ false
or_right true b e = cc
or_right false b e = e

-- a test that passes, and P holds, or fails, and N holds
pub data Tells (P N : Type 0) : Bool → Type 0 where
  passes : P → Tells P N true
  fails : N → Tells P N false

module _ {P N : Type 0} where
  pub why_passed : {b : Bool} → Tells P N b → b ≡ true → P
  why_passed (passes h) e = h
  why_passed (fails h) e = let z : ◌≡◌ {A = ℕ} 0 1 = cc in absurd (omega arith)

  pub why_failed : {b : Bool} → Tells P N b → b ≡ false → N
  why_failed (passes h) e = let z : ◌≡◌ {A = ℕ} 0 1 = cc in absurd (omega arith)
  why_failed (fails h) e = h

  pub passed : {b : Bool} → (P → N → ⊥) → Tells P N b → P → b ≡ true
  passed never (passes h) p = refl
  passed never (fails h) p = absurd (never p h)

  pub failed : {b : Bool} → (P → N → ⊥) → Tells P N b → N → b ≡ false
  failed never (passes h) n = absurd (never h n)
  failed never (fails h) n = refl
