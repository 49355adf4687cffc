-- What a turn keeps of the sizes: the lengths that were passed fit, and what is left comes to the same index, sum and place.
use Prim.Native.Nat.{ℕ, suc, ◌+◌, ◌-◌, ◌*◌, ◌<◌, ◌≤◌, min}
use native.Mathlib.Omega.{arith}
use mathlib.Core.Path.{◌≡◌, refl, sym, ap, ◌∙◌}
use mathlib.Core.Bool.{Bool, true, false, ◌&&◌, ◌||◌}
use mathlib.Core.List.{List}
use lib.ListN.{length, get_or, drop}
use lib.Dec.{eqb, ltb}
use borrow.Author.Tests.{ltb-false}
use Rattle.layout.proofs.TestLaws.{or_right}
use Rattle.packet.specs.Packets.{sum as sum_of}
use Rattle.packet.proofs.TakeLaws.{here, none_left}
use Rattle.plan.specs.declared.Plan.{Plan}
use Rattle.sizing.specs.declared.Spot.{Spot}
use Rattle.sizing.specs.declared.Sized.{Sized}
use Rattle.sizing.specs.Places.{spot, Placing, Placed}
use Rattle.sizing.specs.Sizes.{limit_of, misfit, misfit_at, reach, first, Sizable, SizedAs}
use Rattle.sizing.proofs.PlaceLaws.{picked}

-- what fits by its length is short
pub limit-small : (p : Plan) → limit_of p ≤ p.longest
limit-small p = picked (ltb p.layout 2) {x = min p.longest (p.datapacket - p.size)} refl (omega arith) (omega arith)

-- the lengths before i are taken: their sum, and the place behind them
pub record Sizing (p : Plan) (q : ℕ) (ns : List ℕ) (z : Sized) (i : ℕ) : Type 0 where
  pub sizable : Sizable p q ns
  pub count : z.taken ≡ i
  pub few : i ≤ length ns
  pub index : misfit_at p (first q) ns ≡ i + misfit_at p z.behind (drop i ns)
  pub reach : reach p (first q) ns ≡ reach p z.behind (drop i ns)
  pub total : sum_of ns ≡ z.sum + sum_of (drop i ns)
  pub small : z.sum ≤ i * 65536
  pub near : z.behind.q ≤ 4 + i * 67100
  pub end : z.behind.end ≤ z.behind.q + p.datapacket

-- .. and the length n at i is neither 0 nor too long
pub record Turn (p : Plan) (q : ℕ) (ns : List ℕ) (z : Sized) (i n : ℕ) : Type 0 where
  pub sizing : Sizing p q ns z i
  pub here : i < length ns
  pub is : n ≡ get_or ns i 0
  pub short : eqb n 0 || ltb (limit_of p) n ≡ false

-- the plan by which the loop goes is the one that it was given
module _ {p plan : Plan} (o : p ≡ plan) {q : ℕ} {ns : List ℕ} where
  pub sizing : Sizable plan q ns → Sizing p q ns (record { taken = 0; sum = 0; behind = first q }) 0
  sizing k =
      record {
        sizable = rw o k;
        count = refl;
        few = omega arith;
        index = omega arith;
        reach = refl;
        total = omega arith;
        small = omega arith;
        near = omega (arith, k.near);
        end = omega arith;
      }

  module _ {z : Sized} {i : ℕ} (s : Sizing p q ns z i) where
    pub size_done : length ns ≤ i → SizedAs plan q ns z
    unfolding misfit_at reach
    size_done h =
        let none = none_left ns i h in
        let e : misfit_at p (first q) ns ≡ i + 0 = s.index ∙ rw none in
        let t : sum_of ns ≡ z.sum + 0 = s.total ∙ rw none in
        let r : SizedAs p q ns z =
        record {
          taken = omega (arith, s.count);
          few = omega (arith, s.count, s.few);
          all = λ _. record { sum = omega arith; behind = sym (s.reach ∙ rw none) };
        } in
        rw o at r

    module _ (h : i < length ns) {n : ℕ} (e : n ≡ get_or ns i 0) where
      pub size_stops : misfit p z.behind n ≡ true → SizedAs plan q ns z
      unfolding misfit_at
      size_stops f =
          let m : misfit_at p (first q) ns ≡ i + 0 = s.index ∙ rw (here ns i h e, f) in
          let r : SizedAs p q ns z =
          record { taken = omega (arith, s.count); few = omega (arith, s.count, s.few); all = λ x. absurd (omega (arith, s.count)) } in
          rw o at r

      module _ {limit : ℕ} (v : limit ≡ limit_of p) {b : Bool} (g : b ≡ (eqb n 0 || ltb limit n)) where
        pub size_long : b ≡ true → SizedAs plan q ns z
        size_long f = let x : eqb n 0 || ltb (limit_of p) n ≡ true = rw v at (sym g ∙ f) in size_stops (rw x)

        pub turning : b ≡ false → Turn p q ns z i n
        turning f = record { sizing = s; here = h; is = e; short = rw v at (sym g ∙ f) }

module _ {p : Plan} {q : ℕ} {ns : List ℕ} {z : Sized} {i n : ℕ} (u : Turn p q ns z i n) where
  abbrev s : Sizing p q ns z i
  s = u.sizing

  abbrev k : Sizable p q ns
  k = s.sizable

  pub small : n < 65536
  small =
      let x : ltb (limit_of p) n ≡ false = or_right (eqb n 0) (ltb (limit_of p) n) u.short in
      omega (arith, ltb-false (limit_of p) n x, limit-small p, k.formed.longest-most)

  pub placing : Placing p z.behind n
  placing = record { formed = k.formed; small = small; near = omega (arith, s.near, k.few, u.here); end = s.end }

  pub sum_fits : z.sum + n < 18446744073709551616
  sum_fits = omega (arith, u.here, s.small, k.few, small)

  pub count_fits : z.taken + 1 < 18446744073709551616
  count_fits = omega (arith, u.here, s.count, k.few)

  module _ {d : Spot} (x : Placed p z.behind n d) {b : Bool} (g : b ≡ (eqb p.layout 3 && ltb p.datapacket d.next.q)) where
    test : {t : Bool} → b ≡ t → misfit p z.behind n ≡ t
    test y = rw u.short (rw x.is at (sym g ∙ y))

    pub size_past : b ≡ true → {plan : Plan} → p ≡ plan → SizedAs plan q ns z
    size_past y o = size_stops o s u.here u.is (test y)

    pub size_next : b ≡ false → Sizing p q ns (record { taken = z.taken + 1; sum = z.sum + n; behind = d.next }) (i + 1)
    unfolding misfit_at reach
    size_next y =
        let on = here ns i u.here u.is in
        let m : misfit_at p (first q) ns ≡ i + suc (misfit_at p (spot p z.behind n).next (drop (i + 1) ns)) = s.index ∙ rw (on, test y) in
        let t : sum_of ns ≡ z.sum + (n + sum_of (drop (i + 1) ns)) = s.total ∙ rw on in
        let j : d.next ≡ (spot p z.behind n).next = ap (λ w. w.next) x.is in
        let f = k.formed.sized in
        record {
          sizable = k;
          count = omega (arith, s.count);
          few = omega (arith, u.here);
          index = rw j (omega arith);
          reach = s.reach ∙ rw (on, j);
          total = omega arith;
          small = omega (arith, s.small, small);
          near = omega (arith, s.near, x.start, x.near, small, f.cut_most, f.size-most);
          end = x.end;
        }

pub ruleset sizes = (sizing, size_done, size_long, turning, placing, sum_fits, count_fits, size_past, size_next)
