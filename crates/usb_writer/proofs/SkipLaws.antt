-- Where a message comes to stand is the first place that the layout permits.
use Prim.Native.Nat.{ℕ, zero, suc, ◌+◌, ◌-◌, ◌%◌, ◌<◌, ◌≤◌}
use native.Mathlib.Omega.{arith}
use native.Mathlib.Nat.{mod-lt, zero-mod, add-mod_right}
use mathlib.Core.Path.{◌≡◌, ◌∙◌, refl}
use mathlib.Core.Bool.{cond}
use lib.Dec.{leb, ltb, eqb}
use borrow.Author.Tests.{ltb-false, lt-ltb, le-ltb, leb-true, leb-false, le-leb, eq-eqb, ne_eqb}
use Rattle.layout.specs.Multiple.{pad}
use Rattle.packet.specs.declared.At.{At}
use Rattle.plan.specs.declared.Plan.{Plan}
use Rattle.plan.specs.Place.{streamed_at}
use Rattle.plan.proofs.CaseLaws.{by_test, by_less}
use Rattle.plan.proofs.PlaceLaws.{end_only, end_starts, streamed_is}
use Rattle.usb.specs.Writing.{permits, skipped}
use Rattle.usb_plan.specs.Plan.{setting, Ready}
use Rattle.usb_plan.proofs.PlanLaws.{tailed, messages}
use Rattle.sizing.specs.Places.{spot}
use Rattle.sizing.specs.Sizes.{first}
use Rattle.sizing.proofs.ReachLaws.{Fit, fit-packet}
use Rattle.message_writer.proofs.CaseLaws.{formed}

-- a place in a data packet, or at its end
pub record Cut (p : Plan) (a : At) : Type 0 where
  pub cut : a.end % p.datapacket ≡ 0
  pub ahead : a.q ≤ a.end
  pub near : a.end ≤ a.q + p.datapacket
  pub single : p.layout ≡ 0 → a.end < a.q + p.datapacket

cut-is : {p : Plan} {x y : At} → x ≡ y → Cut p y → Cut p x
cut-is e c = rw e c

pub first-cut : {p : Plan} → Ready p → Cut p (first 0)
first-cut {p} k =
    record { cut = zero-mod p.datapacket; ahead = omega arith; near = omega arith; single = λ _. omega (arith, k.cut-least) }

module _ (m : ℕ) (h : 0 < m) {q e : ℕ} (z : e % m ≡ 0) (a : q ≤ e) (u : e ≤ q + m) where
  -- at the end of a data packet the next one starts
  at-end : e ≤ q → q % m ≡ 0
  at-end l = let i : q ≡ e = omega arith in rw i z

  -- where k bytes are left, a message that needs so many stands here, else at the end
  skip_needed : (k : ℕ) → 0 < k → k ≤ m → cond (ltb e (q + k)) e q ≡ q + cond (leb (q % m + k) m) 0 (m - q % m)
  skip_needed k some most =
      by_less q e
      (λ l. let i = end_only m h q e z l u in
      by_test (leb (q % m + k) m) (λ g. rw (g, le-ltb e (q + k) (omega (arith, leb-true (q % m + k) m g))) (omega arith))
      (λ g. rw (g, lt-ltb e (q + k) (omega (arith, mod-lt q h, leb-false (q % m + k) m g))) i))
      (λ l. rw (lt-ltb e (q + k) (omega arith), le-leb (q % m + k) m (omega (arith, at-end l))) (omega arith))

  -- a single message stands at the end, unless that is here
  skip_single : e < q + m → e ≡ q + cond (eqb (q % m) 0) 0 (m - q % m)
  skip_single s =
      by_less q e (λ l. let i = end_only m h q e z l u in rw (ne_eqb (q % m) 0 (λ x. omega arith)) i)
      (λ l. rw (eq-eqb (q % m) 0 (at-end l)) (omega arith))

-- where a message comes to stand, and behind it
pub record Step (p : Plan) (a : At) (n : ℕ) : Type 0 where
  pub from : (spot p a n).from ≡ a.q + skipped (setting p) a.q n
  pub next : Cut p (spot p a n).next

module _ {p : Plan} (k : Ready p) {a : At} (c : Cut p a) {n : ℕ} (f : Fit p a n) where
  abbrev m : ℕ
  m = p.datapacket

  -- the message's bytes
  abbrev w : ℕ
  w = p.size + n + pad p.align (p.size + n)

  some : 0 < m
  some = omega (arith, k.cut-least)

  fits : p.layout < 2 → w ≤ m
  fits l = rw (tailed k) at (fit-packet (formed (messages k)) f l)

  -- behind a message at the start of the next data packet
  over : p.layout < 2 → Cut p (record { q = a.end + w; end = a.end + m })
  over l =
      record {
        cut = add-mod_right a.end m ∙ c.cut;
        ahead = omega (arith, fits l);
        near = omega arith;
        single = λ _. omega (arith, k.size-least);
      }

  -- .. in this one
  stays : p.layout ≡ 1 → a.q + w ≤ a.end → Cut p (record { q = a.q + w; end = a.end })
  stays e l = record { cut = c.cut; ahead = l; near = omega (arith, c.near); single = λ x. absurd (omega arith) }

  -- .. in a stream, wherever its data packet ends
  streams : p.layout ≡ 2 → (q end : ℕ) → end % m ≡ 0 → end ≤ q + m → Cut p (record { q = q; end = streamed_at m end q })
  streams e q end z u =
      let i = streamed_is m some end q z u in
      record {
        cut = rw i (end_starts m some q);
        ahead = rw i (omega arith);
        near = rw i (omega arith);
        single = λ x. absurd (omega arith);
      }

  pub step : Step p a n
  unfolding spot skipped permits
  step = at p.layout refl
    where
      at : (l : ℕ) → p.layout ≡ l → Step p a n
      at zero e =
          record {
            from = rw e (skip_single m some c.cut c.ahead c.near (c.single e));
            next = cut-is (rw e) (over (omega arith));
          }
      at (suc zero) e =
          record {
            from =
                rw (e, ← k.size)
                (skip_needed m some c.cut c.ahead c.near w (omega (arith, k.size-least)) (fits (omega arith)));
            next =
                by_test (ltb a.end (a.q + w)) (λ g. cut-is (rw (e, g)) (over (omega arith)))
                (λ g. cut-is (rw (e, g)) (stays e (ltb-false a.end (a.q + w) g)));
          }
      at (suc (suc zero)) e =
          record {
            from =
                rw (e, ← k.size)
                (skip_needed m some c.cut c.ahead c.near p.size (omega (arith, k.size-least))
                (omega (arith, k.size-most, k.cut-least)));
            next =
                by_test (ltb a.end (a.q + p.size))
                (λ g. cut-is (rw (e, g)) (streams e (a.end + w) (a.end + m) (add-mod_right a.end m ∙ c.cut) (omega arith)))
                (λ g. cut-is (rw (e, g)) (streams e (a.q + w) a.end c.cut (omega (arith, c.near))));
          }
      at (suc (suc (suc x))) e = absurd (omega (arith, k.layout))
