-- Numbers of no, one and two bytes, as the code reads and writes them.
use Prim.Native.Nat.{ℕ, zero, suc, ◌+◌, ◌*◌, ◌/◌, ◌%◌, ◌<◌, ◌≤◌}
use native.Mathlib.Omega.{arith}
use native.Mathlib.Numerals.{add-one}
use mathlib.Core.Path.{◌≡◌, refl}
use mathlib.Core.List.{List}
use lib.ListN.{get_or, set}
use lib.Seq.{sets}
use Rattle.layout.specs.Field.{bytes}
use Rattle.layout.specs.Leaf.{Number}

-- a width that is neither one nor two
pub no_width : (w : ℕ) → w ≤ 2 → (w ≡ 1 → ⊥) → (w ≡ 2 → ⊥) → w ≡ 0
no_width zero h no-1 no-2 = refl
no_width (suc zero) h no-1 no-2 = absurd (no-1 refl)
no_width (suc (suc w)) h no-1 no-2 = absurd (no-2 (omega arith))

module _ (t : List ℕ) (i w : ℕ) where
  pub no_byte : w ≡ 0 → Number t i w 0
  no_byte e = rw e (record { is = refl; below = omega arith; small = omega arith })

  pub one_byte : {a : ℕ} → w ≡ 1 → a ≡ get_or t i 0 → a < 256 → Number t i w a
  one_byte e d b = rw e (record { is = omega arith; below = omega arith; small = omega arith })

  pub two_bytes : {a b : ℕ} → w ≡ 2 → a ≡ get_or t i 0 → a < 256 → b ≡ get_or t (i + 1) 0 → b < 256 → Number t i w (a + 256 * b)
  two_bytes {a} {b} e d l f h =
      let g : get_or t (i + 1) 0 ≡ get_or t (suc i) 0 = rw add-one in
      rw e (record { is = omega arith; below = omega arith; small = omega arith })

  pub put-none : (n : ℕ) → w ≡ 0 → t ≡ sets t i (bytes w n)
  put-none n e = rw e

  pub put_one : (n : ℕ) → w ≡ 1 → set t i (n % 256) ≡ sets t i (bytes w n)
  put_one n e = rw e

  pub put_two : (n : ℕ) → w ≡ 2 → set (set t i (n % 256)) (i + 1) (n / 256 % 256) ≡ sets t i (bytes w n)
  put_two n e = rw (e, add-one)
