-- Opening a block puts its name on top and leaves the names below.
use Prim.Native.Nat.{ℕ, zero, suc, ◌+◌, ◌-◌, ◌<◌, ◌≤◌}
use native.Mathlib.Omega.{arith}
use native.Mathlib.Numerals.{add-one}
use mathlib.Core.Path.{◌≡◌, refl}
use mathlib.Core.List.{List, [], ◌∷◌}
use lib.ListN.{length, set, length-set}
use lib.Seq.{slice, get_or-set_same, get_or-set_other}
use Rattle.passing.specs.Names.{place, name_in, names_in, Lying, Lie}

kept : (t : List ℕ) (ps : List (ℕ × ℕ)) (i : ℕ) (v : ℕ × ℕ) (d : ℕ) → d ≤ i → names_in t (set ps i v) d ≡ names_in t ps d
unfolding names_in
kept t ps i v zero h = refl
kept t ps i v (suc d) h = rw (get_or-set_other ps i d v (0, 0) (omega arith), kept t ps i v d (omega arith))

still : (t : List ℕ) (ps : List (ℕ × ℕ)) (i : ℕ) (v : ℕ × ℕ) (d : ℕ) → d ≤ i → Lie t ps d → Lie t (set ps i v) d
unfolding Lie
still t ps i v zero h l = tt
still t ps i v (suc d) h (a, l) =
    let e : place (set ps i v) d ≡ place ps d = get_or-set_other ps i d v (0, 0) (omega arith) in
    (record { held = omega (arith, a.held, length-set ps i v); name = rw e a.name; inside = rw e a.inside }, still t ps i v d (omega arith) l)

module _ (t : List ℕ) (ps : List (ℕ × ℕ)) where
  -- the innermost of the names, and those around it
  pub names_some : (d : ℕ) → 0 < d → names_in t ps d ≡ name_in t ps (d - 1) ∷ names_in t ps (d - 1)
  unfolding names_in
  names_some zero h = absurd (omega arith)
  names_some (suc d) h = let e : suc d - 1 ≡ d = omega arith in rw e

  pub top : (d : ℕ) → 0 < d → Lie t ps d → Lying t ps (d - 1) × Lie t ps (d - 1)
  unfolding Lie
  top zero h l = absurd (omega arith)
  top (suc d) h l = let e : suc d - 1 ≡ d = omega arith in rw e l

  pub empty : Lie t ps 0
  unfolding Lie
  empty = tt

  pub none_open : (d : ℕ) → d ≤ 0 → names_in t ps d ≡ []
  unfolding names_in
  none_open zero h = refl
  none_open (suc d) h = absurd (omega arith)

  -- a name on top of d names
  module _ (d from to : ℕ) (h : d < length ps) where
    first : place (set ps d (from, to)) d ≡ (from, to)
    first = get_or-set_same ps d (from, to) (0, 0) h

    pub opened : names_in t (set ps d (from, to)) (d + 1) ≡ slice from to t ∷ names_in t ps d
    unfolding names_in
    opened = rw (add-one d, first, kept t ps d (from, to) d (omega arith))

    pub lies : from ≤ to → to ≤ length t → Lie t ps d → Lie t (set ps d (from, to)) (d + 1)
    unfolding Lie
    lies a b l = rw (add-one d) (
      record { held = omega (arith, h, length-set ps d (from, to)); name = rw first a; inside = rw first b },
      still t ps d (from, to) d (omega arith) l,
    )
