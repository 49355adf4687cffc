-- A row is the one of its message, and where it was put the next has its place behind it.
use Prim.Native.Nat.{ℕ, ◌-◌, ◌<◌, ◌≤◌}
use native.Mathlib.Omega.{arith}
use mathlib.Core.Path.{◌≡◌, refl}
use mathlib.Core.Bool.{Bool, true, false, cond}
use mathlib.Core.List.{List}
use lib.ListN.{length, get_or, take, drop, length-take, length-drop}
use lib.Seq.{get_or-take, take_all}
use lib.Dec.{eqb}
use borrow.Author.Tests.{eqb-false, eq-eqb, ne_eqb}
use Rattle.layout.proofs.PartLaws.{long}
use Rattle.packet.specs.declared.Counter.{Counter}
use Rattle.packet.specs.declared.Found.{Found}
use Rattle.packet.specs.Counter.{gap}
use Rattle.packet.specs.Kind.{slave, master, kind_from, kind_of}
use Rattle.packet.specs.Row.{row}
use Rattle.packet.specs.Seen.{message}
use Rattle.rows.specs.Rows.{Rowable}

-- the kind of a packet is that of the bytes from its place on
kind-is : {d : ℕ} (b : List ℕ) (n : ℕ) → d < 2 → 0 < n → n ≤ length b → kind_from (eqb d 0) b ≡ kind_of d (take n b)
kind-is {d} b n h s l =
    let e : eqb (length (take n b)) 0 ≡ false = ne_eqb (length (take n b)) 0 (λ z. omega (arith, z, length-take n b)) in
    let f : get_or (take n b) 0 0 ≡ get_or b 0 0 = get_or-take n b 0 0 s in
    rw (e, f) (at (eqb d 0) refl)
  where
    at : (x : Bool) → eqb d 0 ≡ x → kind_from x b ≡ cond x (slave (get_or b 0 0)) (cond (eqb d 1) (master (get_or b 0 0)) 0)
    at true g = refl
    at false g = let o : eqb d 1 ≡ true = eq-eqb d 1 (omega (arith, eqb-false d 0 g)) in rw o

module _ {d w : ℕ} {t : List ℕ} {c : Counter} {m : Found} (h : Rowable d w t c m) where
  abbrev part : List ℕ
  part = take (length t - m.at) (drop m.at t)

  whole : part ≡ drop m.at t
  whole = take_all (length t - m.at) (drop m.at t) (omega (arith, length-drop m.at t))

  pub row_is : {g k : ℕ} → g ≡ gap w c m.ctr → k ≡ kind_from (eqb d 0) part
      → record { place = m.at; length = m.len; counter = m.ctr; gap = g; kind = k } ≡ row d w c (message t m)
  unfolding row
  row_is e k =
      let l : length (take m.len (drop m.at t)) ≡ m.len = long t m.at m.len h.inside in
      let i : m.len ≤ length (drop m.at t) = simp length-drop (omega (arith, h.inside)) in
      rw (e, k, whole, kind-is (drop m.at t) m.len h.way h.some i, l)
