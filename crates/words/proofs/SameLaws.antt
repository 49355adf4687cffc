-- Comparing byte for byte.
use Prim.Native.Nat.{ℕ, ◌+◌, ◌≤◌}
use mathlib.Core.Path.{◌≡◌, refl, sym}
use mathlib.Core.Bool.{Bool, true, false, true≢false, ◌&&◌}
use mathlib.Core.List.{List, [], ◌∷◌}
use lib.ListN.{length, take, drop}
use lib.Seq.{slice, drop_at, take-add, length-take-le}
use lib.Dec.{eqb}
use borrow.Author.Tests.{eqb-true, eq-eqb}
use Rattle.words.specs.Words.{same}

pub both : (a b : Bool) → (a && b) ≡ true → (a ≡ true) × (b ≡ true)
both true b e = (refl, e)
both false b e = absurd (true≢false (sym e))

pub same_true : (s t : List ℕ) → same s t ≡ true → s ≡ t
same_true [] [] e = refl
same_true [] (b ∷ t) e = absurd (true≢false (sym e))
same_true (a ∷ s) [] e = absurd (true≢false (sym e))
same_true (a ∷ s) (b ∷ t) e =
    let (x, y) = both (eqb a b) (same s t) e in
    let k : a ≡ b = eqb-true a b x in
    let r : s ≡ t = same_true s t y in
    cc

pub same_refl : (t : List ℕ) → same t t ≡ true
same_refl [] = refl
same_refl (b ∷ t) = rw (eq-eqb b b refl) (same_refl t)
