-- Alignment. A header goes with one alignment or with two, of which the least is not 0: one computed test over the whole table.
use Prim.Native.Nat.{ℕ, ◌+◌, ◌%◌, ◌<◌, ◌≤◌}
use native.Mathlib.Omega.{arith}
use mathlib.Core.Path.{◌≡◌, refl}
use mathlib.Core.Bool.{Bool, true, false, ◌&&◌, ◌||◌, or-false, or_self}
use mathlib.Core.List.{List, [], ◌∷◌}
use lib.Dec.{ltb, eqb}
use Rattle.layout.proofs.TableLaws.{all-given}
use Rattle.layout.proofs.MultipleLaws.{pad_less, pad-whole}
use Rattle.flexray.specs.Setting.{headers, header, among, start}
use Rattle.flexray.specs.Table.{first, last}

abbrev few : List ℕ → Bool
few [] = true
few (a ∷ []) = ltb 0 a
few (a ∷ b ∷ []) = ltb 0 a
few (a ∷ b ∷ c ∷ bs) = false

among-few : (a : ℕ) (bs : List ℕ) → few bs ≡ true → among a bs ≡ (ltb 0 (first bs) && (eqb a (first bs) || eqb a (last bs)))
among-few a [] e = refl
among-few a (x ∷ []) e = simp (e, or-false, or_self)
among-few a (x ∷ y ∷ []) e = simp (e, or-false)
among-few a (x ∷ y ∷ z ∷ bs) e = cc

pub among-header : (n a : ℕ)
    → among a (header n).aligns
    ≡ (ltb 0 (first (header n).aligns) && (eqb a (first (header n).aligns) || eqb a (last (header n).aligns)))
unfolding headers
among-header n a = among-few a (header n).aligns (all-given (λ h. few h.aligns) (header 9) headers n refl refl)

-- a further packet starts at a multiple of the alignment, behind at least one byte, and at the first such multiple
pub start-whole : (a e : ℕ) → 0 < a → start a e % a ≡ 0
unfolding start
start-whole a e h = pad-whole a (e + 1) h

pub start-behind : (a e : ℕ) → e < start a e
unfolding start
start-behind a e = omega arith

pub start-near : (a e : ℕ) → 0 < a → start a e ≤ e + a
unfolding start
start-near a e h = omega (arith, pad_less a (e + 1) h)
