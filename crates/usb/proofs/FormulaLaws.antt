-- The formula gives what the table of headers derives: at all numbers of the table at once, which is computed, and beyond them.
use Prim.Native.Nat.{ℕ, ◌-◌, ◌<◌, ◌≤◌}
use native.Mathlib.Omega.{arith}
use mathlib.Core.Path.{◌≡◌, refl}
use mathlib.Core.List.{[]}
use borrow.Author.Tests.{lt-ltb, le-ltb}
use Rattle.layout.specs.Field.{shape}
use Rattle.layout.proofs.TableLaws.{by_number}
use Rattle.usb.specs.Formula.{spread, worked}
use Rattle.usb.specs.Setting.{headers, header}

none_beyond : (n : ℕ) → 6 ≤ n → worked n ≡ shape []
unfolding worked
none_beyond n h = rw (le-ltb n 3 (omega arith), le-ltb n 6 h) refl

pub worked-is : (n : ℕ) → worked n ≡ shape (header n)
unfolding headers worked
worked-is n = by_number shape worked [] headers n refl none_beyond

-- .. on each path of the code
pub bytes_are : (n : ℕ) → n < 3 → spread n 1 ≡ shape (header n)
unfolding worked
bytes_are n h = rw (lt-ltb n 3 h) at (worked-is n)

pub words_are : (n : ℕ) → 3 ≤ n → n < 6 → spread (n - 3) 2 ≡ shape (header n)
unfolding worked
words_are n l h = rw (le-ltb n 3 l, lt-ltb n 6 h) at (worked-is n)

pub none_are : (n : ℕ) → 6 ≤ n → shape [] ≡ shape (header n)
none_are n h = rw (none_beyond n h) at (worked-is n)
