-- Where a message comes to stand, in bounds.
use Prim.Native.Nat.{ℕ, ◌+◌, ◌<◌, ◌≤◌}
use native.Mathlib.Omega.{arith}
use borrow.Author.Rules.{rules}
use mathlib.Core.Path.{◌≡◌}
use mathlib.Core.Bool.{Bool, true, false, cond}
use lib.Dec.{eqb}
use Rattle.packet.specs.declared.At.{At}
use Rattle.plan.specs.declared.Plan.{Plan}
use Rattle.plan.specs.Place.{header_at, Beyond, Streaming}
use Rattle.plan.specs.Plan.{Sized}
use Rattle.plan.proofs.CaseLaws.{by_test}
use Rattle.plan.proofs.PlaceLaws.{streamed_on}
use Rattle.sizing.specs.Places.{whole_of, crosses_at, end_at, spot, Formed, Reaching, Placing, Placed}

-- one of two numbers is not above both
pub picked : (b : Bool) {x y r m : ℕ} → r ≡ cond b x y → x ≤ m → y ≤ m → r ≤ m
picked true e h k = omega arith
picked false e h k = omega arith

-- the end of a place's data packet is not further than that
end-near : {p : Plan} → Formed p → (end q : ℕ) → end ≤ q + p.datapacket → end_at p end q ≤ q + p.datapacket
end-near {p} k end q h =
    by_test (eqb p.layout 2) (λ g. rw g (streamed_on p.datapacket end q (omega (arith, k.sized.cut-least)) h).near) (λ g. rw g h)

-- a message starts at the end of its data packet, or at its place or a few bytes further on
pub record Starts (m : ℕ) (a : At) (from end : ℕ) : Type 0 where
  pub near : from ≤ a.q + m + 7
  pub end-near : end ≤ from + m

starts : {a : At} {m h : ℕ} → a.end ≤ a.q + m → a.q ≤ h → h ≤ a.q + 7 → (b : Bool)
    → Starts m a (cond b a.end h) (cond b (a.end + m) a.end)
starts e l u true = record { near = omega arith; end-near = omega arith }
starts e l u false = record { near = omega arith; end-near = omega arith }

module _ {p : Plan} {a : At} {n : ℕ} (k : Placing p a n) {w : ℕ} (v : Beyond (whole_of p n) (p.size + n) w) where
  abbrev z : Sized p
  z = k.formed.sized

  pub reaching : Reaching p w a
  reaching = record { formed = k.formed; small = omega (arith, z.size-most, k.small, v.small); near = k.near }

  module _ {h : ℕ} (x : Beyond (header_at p a.q) a.q h) (over : Bool) {from : ℕ} (f : from ≡ cond over a.end h) where
    pub place_adds : from + w < 18446744073709551616
    place_adds =
        let l = picked over {m = a.q + 1472 + 7} f (omega (arith, k.end, z.cut_most)) (omega (arith, x.small)) in
        omega (arith, k.near, k.small, z.size-most, v.small)

    module _ {end : ℕ} (e : end ≡ cond over (a.end + p.datapacket) a.end) where
      started : Starts p.datapacket a from end
      started = rw (e, f) (starts k.end x.on x.small over)

      pub place-ends : Streaming p.datapacket end (from + w)
      place-ends =
          record {
            cut = omega (arith, z.cut-least);
            short = z.cut_most;
            near = omega (arith, started.near, k.near, k.small, z.cut_most, z.size-most, v.small);
            far = omega (arith, started.near, started.end-near, k.near, z.cut_most);
          }

      pub placed : over ≡ crosses_at p w a → {last : ℕ} → last ≡ end_at p end (from + w)
          → Placed p a n (record { from = from; next = record { q = from + w; end = last } })
      unfolding spot
      placed o l =
          record {
            is = rw (l, e, f, o, v.is, x.is);
            start = started.near;
            past = omega (arith, v.on);
            near = omega (arith, v.small);
            end = rw l (end-near k.formed end (from + w) (omega (arith, started.end-near)));
          }

pub ruleset places = (rules, reaching, place_adds, place-ends, placed)
