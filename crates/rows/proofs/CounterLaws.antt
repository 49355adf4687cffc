-- Counters of no, one and two bytes, as the code counts them.
use Prim.Native.Nat.{ℕ, ◌+◌, ◌%◌, ◌^◌, ◌<◌}
use native.Mathlib.Omega.{arith}
use native.Mathlib.Nat.{mod-lt}
use mathlib.Core.Path.{◌≡◌, refl, sym, ◌∙◌}
use mathlib.Core.Bool.{Bool, true, false, cond, ◌||◌}
use lib.Dec.{eqb}
use borrow.Author.Tests.{eqb-true, eq-eqb, ne_eqb}
use Rattle.packet.specs.declared.Counter.{Counter}
use Rattle.packet.specs.Counter.{valid, difference, gap, next, later, advance}
use Rattle.packet.proofs.CounterLaws.{held}
use Rattle.rows.specs.Counters.{Parted, Said, After, Sane, Counted, Advanced}

apart_none : {w : ℕ} → w ≡ 0 → (n e : ℕ) → 0 ≡ difference w n e
apart_none z n e = rw z (omega arith)

-- the counter after n
module _ {w n : ℕ} (h : Said w n) where
  pub after_none : w ≡ 0 → After w n n
  unfolding next
  after_none e = record { is = rw e; below = h.below }

  pub said-below : (w ≡ 0 → ⊥) → n < 256 ^ w
  said-below f = h.below (omega (arith, f))

  pub after-some : {r : ℕ} → (w ≡ 0 → ⊥) → r ≡ (n + 1) % 256 ^ w → After w n r
  unfolding next
  after-some f e =
      let l : (n + 1) % 256 ^ w < 256 ^ w = mod-lt (n + 1) (omega (arith, said-below f)) in
      record { is = rw (ne_eqb w 0 f) e; below = λ u. omega arith }

  pub after_byte : w ≡ 1 → After w n ((n + 1) % 256)
  after_byte e = after-some (λ z. omega arith) (rw e)

  pub after_two : w ≡ 2 → After w n ((n + 1) % 65536)
  after_two e = after-some (λ z. omega arith) (rw e)

-- a state that is valid is sane
pub sane : {w : ℕ} {c : Counter} → valid w c ≡ true → Sane w c
unfolding valid
sane {w} {c} e = record { below = λ u v. held w c.expected (rw (ne_eqb c.known 0 (omega arith)) at e) u }

-- gaps and states
module _ {w : ℕ} {c : Counter} {n : ℕ} (h : Counted w c n) where
  pub gap-fresh : c.known ≡ 0 → 0 ≡ gap w c n
  unfolding gap
  gap-fresh e = rw (eq-eqb c.known 0 e) (at (eqb w 0))
    where
      at : (b : Bool) → 0 ≡ cond (b || true) 0 (difference w n c.expected)
      at true = refl
      at false = refl

  pub expected : (c.known ≡ 0 → ⊥) → Parted w n c.expected
  expected g = record { narrow = h.narrow; received = h.below; expected = λ u. h.sane.below u (omega (arith, g)) }

  pub gap_known : (c.known ≡ 0 → ⊥) → {r : ℕ} → r ≡ difference w n c.expected → r ≡ gap w c n
  unfolding gap
  gap_known g {r} e = rw (ne_eqb c.known 0 g) (at (eqb w 0) refl)
    where
      at : (b : Bool) → eqb w 0 ≡ b → r ≡ cond (b || false) 0 (difference w n c.expected)
      at true z = e ∙ sym (apart_none (eqb-true w 0 z) n c.expected)
      at false z = e

  pub said : Said w n
  said = record { narrow = h.narrow; below = λ u. h.below }

  pub advance-none : w ≡ 0 → Advanced w c n c
  unfolding advance
  advance-none e = record { is = rw e; sane = h.sane }

  pub advance-some : (w ≡ 0 → ⊥) → {r : ℕ} → After w n r → Advanced w c n (record { known = 1; expected = r })
  unfolding advance later
  advance-some f a = record { is = rw (ne_eqb w 0 f, a.is); sane = record { below = λ u v. a.below u } }
