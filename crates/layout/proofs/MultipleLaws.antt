-- The tail is short, makes the whole a multiple, and no other tail does both. An alignment is a power of two, so a mask finds it.
use Prim.Native.Nat.{ℕ, suc, ◌+◌, ◌*◌, ◌-◌, ◌/◌, ◌%◌, ◌^◌, ◌<◌, ◌≤◌}
use native.Mathlib.Omega.{arith}
use native.Mathlib.Nat.{mod-lt, add-mod-mod, div-add-mod', mul-mod_left, lt_of_mul-lt-mul_right}
use mathlib.Core.Path.{◌≡◌, refl, ap}
use mathlib.Core.Logic.{inl, inr}
use mathlib.Core.Bool.{Bool, true, false, ◌||◌}
use lib.Dec.{eqb}
use lib.Bits.{bit_and, and_mask}
use lib.Pow.{pow_pos}
use borrow.Author.Tests.{eqb-true}
use Rattle.layout.specs.Multiple.{pad, Aligned, alignment, Rounded}

pub pad_less : (a n : ℕ) → 0 < a → pad a n < a
unfolding pad
pad_less a n h = mod-lt (a - n % a) h

pub pad-whole : (a n : ℕ) → 0 < a → (n + pad a n) % a ≡ 0
unfolding pad
pad-whole a n h =
    let e : n + (a - n % a) ≡ suc (n / a) * a = omega (arith, div-add-mod' n a, mod-lt n h) in
    rw (add-mod-mod n (a - n % a) a, e) (mul-mod_left (suc (n / a)) a)

near : (a n e f : ℕ) → 0 < a → f < a → (n + e) % a ≡ 0 → (n + f) % a ≡ 0 → (n + f) / a ≤ (n + e) / a
near a n e f h l p q =
    let m : (n + f) / a * a < suc ((n + e) / a) * a = omega (arith, div-add-mod' (n + e) a, div-add-mod' (n + f) a) in
    let k : (n + f) / a < suc ((n + e) / a) = lt_of_mul-lt-mul_right a m in
    omega arith

pub pad_only : (a n e : ℕ) → 0 < a → e < a → (n + e) % a ≡ 0 → e ≡ pad a n
pad_only a n e h l p =
    let lf : pad a n < a = pad_less a n h in
    let q : (n + pad a n) % a ≡ 0 = pad-whole a n h in
    let x : (n + e) / a ≡ (n + pad a n) / a = omega (arith, near a n e (pad a n) h lf p q, near a n (pad a n) e h l q p) in
    let y : (n + e) / a * a ≡ (n + pad a n) / a * a = ap (λ k. k * a) x in
    omega (arith, div-add-mod' (n + e) a, div-add-mod' (n + pad a n) a)

pub alignment-is : (a : ℕ) → alignment a ≡ true → Aligned a
alignment-is a = at (eqb a 1) (eqb a 2) (eqb a 4) (eqb a 8) refl refl refl refl
  where
    at : (b c d e : Bool) → eqb a 1 ≡ b → eqb a 2 ≡ c → eqb a 4 ≡ d → eqb a 8 ≡ e → b || c || d || e ≡ true → Aligned a
    at true c d e gb gc gd ge h = inl (eqb-true a 1 gb)
    at false true d e gb gc gd ge h = inr (inl (eqb-true a 2 gc))
    at false false true e gb gc gd ge h = inr (inr (inl (eqb-true a 4 gd)))
    at false false false true gb gc gd ge h = inr (inr (inr (eqb-true a 8 ge)))
    at false false false false gb gc gd ge h = let z : ◌≡◌ {A = ℕ} 0 1 = cc in absurd (omega arith)

-- an alignment is a power of two: one below it is a mask, which leaves the remainder
pub record Power (a : ℕ) : Type 0 where
  pub low : 0 < a
  pub high : a ≤ 8
  pub rest : (y : ℕ) → bit_and y (a - 1) ≡ y % a

power : (k : ℕ) → 2 ^ k ≤ 8 → Power (2 ^ k)
power k h = record { low = pow_pos k; high = h; rest = λ y. and_mask y k }

pub aligned_power : {a : ℕ} → Aligned a → Power a
aligned_power (inl e) = rw e (power 0 (omega arith))
aligned_power (inr (inl e)) = rw e (power 1 (omega arith))
aligned_power (inr (inr (inl e))) = rw e (power 2 (omega arith))
aligned_power (inr (inr (inr e))) = rw e (power 3 (omega arith))

-- what is left of n + (a - 1) without its remainder is the multiple that the tail makes
above : (a n : ℕ) → 0 < a → n + (a - 1) - (n + (a - 1)) % a ≡ n + pad a n
above a n h =
    let y : ℕ = n + (a - 1) in
    let m : y - y % a ≡ y / a * a = omega (arith, div-add-mod' y a) in
    let l : y % a < a = mod-lt y h in
    let e : n + (a - 1 - y % a) ≡ y - y % a = omega arith in
    let w : (n + (a - 1 - y % a)) % a ≡ 0 = rw (e, m) (mul-mod_left (y / a) a) in
    omega (arith, pad_only a n (a - 1 - y % a) h (omega arith) w)

pub masked : {a n : ℕ} → Power a → Rounded a n (n + (a - 1) - bit_and (n + (a - 1)) (a - 1))
masked {a} {n} p = rw (p.rest (n + (a - 1)), above a n p.low) (record { is = refl; small = omega (arith, pad_less a n p.low) })
