-- The formula gives what the table of headers derives: at all numbers of the table at once, which is computed, and beyond them.
use Prim.Native.Nat.{ℕ, ◌%◌, ◌<◌, ◌≤◌}
use native.Mathlib.Omega.{arith}
use mathlib.Core.Path.{◌≡◌, refl}
use mathlib.Core.Bool.{Bool, true, false, cond}
use borrow.Author.Tests.{lt-ltb, le-ltb, eq-eqb, ne_eqb}
use Rattle.layout.proofs.TableLaws.{by_number}
use Rattle.flexray.specs.Formula.{Roomy, made, paired, none, worked}
use Rattle.flexray.specs.Setting.{headers, header}
use Rattle.flexray.specs.Table.{entry}

none_beyond : (n : ℕ) → 9 ≤ n → worked n ≡ entry none
unfolding worked
none_beyond n h = rw (lt-ltb 8 n h) refl

pub worked-is : (n : ℕ) → worked n ≡ entry (header n)
unfolding headers worked
worked-is n = by_number entry worked none headers n refl none_beyond

-- .. on each path of the code
pub none_are : (n : ℕ) → 9 ≤ n → entry none ≡ entry (header n)
none_are n h = rw (none_beyond n h) at (worked-is n)

pub alone_is : (n : ℕ) → n ≤ 8 → n < 1 → made 1 0 0 ≡ entry (header n)
unfolding worked
alone_is n h a = rw (le-ltb 8 n h, lt-ltb n 1 a) at (worked-is n)

pub full_are : (n : ℕ) → n ≤ 8 → 1 ≤ n → n % 2 ≡ 0 → paired n true ≡ entry (header n)
unfolding worked
full_are n h p e = rw (le-ltb 8 n h, le-ltb n 1 p, eq-eqb (n % 2) 0 e) at (worked-is n)

pub short_are : (n : ℕ) → n ≤ 8 → 1 ≤ n → (n % 2 ≡ 0 → ⊥) → paired n false ≡ entry (header n)
unfolding worked
short_are n h p e = rw (le-ltb 8 n h, le-ltb n 1 p, ne_eqb (n % 2) 0 e) at (worked-is n)

-- filled up or not, there is room
pub roomy : (full : Bool) (short : ℕ) {size len ctr : ℕ} → size ≡ cond full 4 short → Roomy short len ctr → Roomy size len ctr
roomy true short e h = record { least = omega arith; most = omega arith }
roomy false short e h = record { least = omega arith; most = omega arith }
