-- Places that lengths which fit come to: each is in its data packet or at its end, and none is before the one behind which it stands.
use Prim.Native.Nat.{ℕ, zero, suc, ◌+◌, ◌-◌, ◌%◌, ◌<◌, ◌≤◌, min}
use native.Mathlib.Omega.{arith}
use mathlib.Core.Path.{◌≡◌, refl}
use mathlib.Core.Logic.{inl, inr}
use mathlib.Core.Bool.{false, ◌&&◌, ◌||◌}
use mathlib.Core.List.{List, [], ◌∷◌}
use lib.ListN.{length}
use lib.Dec.{eqb, ltb}
use borrow.Author.Tests.{ltb-false, lt-ltb, le-ltb, eq-eqb, ne_eqb}
use Rattle.layout.specs.Multiple.{pad, Aligned}
use Rattle.layout.proofs.MultipleLaws.{pad_less, aligned_power}
use Rattle.layout.proofs.TestLaws.{or_left, or_right}
use Rattle.packet.specs.declared.At.{At}
use Rattle.packet.specs.Packets.{sum}
use Rattle.plan.specs.declared.Plan.{Plan}
use Rattle.plan.specs.Place.{streamed_at}
use Rattle.plan.proofs.CaseLaws.{by_test, by_less}
use Rattle.plan.proofs.PlaceLaws.{behind-on, streamed_past}
use Rattle.sizing.specs.declared.Spot.{Spot}
use Rattle.sizing.specs.Places.{whole_of, crosses_at, standing, spot, Formed}
use Rattle.sizing.specs.Sizes.{limit_of, misfit, misfit_at, reach}

---- One message ----------------------------------------------------------------------------------------------------------------

-- what fits a data packet fits it with its tail, since the alignment divides it
pub whole-fits : {a : ℕ} → Aligned a → {m x : ℕ} → m % 8 ≡ 0 → x ≤ m → x + pad a x ≤ m
unfolding pad
whole-fits (inl e) h l = rw e (omega arith)
whole-fits (inr (inl e)) h l = rw e (omega arith)
whole-fits (inr (inr (inl e))) h l = rw e (omega arith)
whole-fits (inr (inr (inr e))) h l = rw e (omega arith)

-- a message stands behind its place, and the place behind it is not past the end of its data packet. In a frame a few bytes are passed over, in
-- a stream less than a header has
pub record Ahead (p : Plan) (a : At) (s : Spot) : Type 0 where
  pub on : a.q ≤ s.from
  pub ahead : p.layout < 3 → s.next.q ≤ s.next.end
  pub few : 1 < p.layout → s.from - a.q ≤ 8
  pub stream : p.layout ≡ 2 → s.from - a.q < p.size

module _ {p : Plan} (k : Formed p) {a : At} (h : p.layout < 3 → a.q ≤ a.end) {w : ℕ} (f : p.layout < 2 → w ≤ p.datapacket) where
  ahead-is : {x y : Spot} → x ≡ y → Ahead p a y → Ahead p a x
  ahead-is e s = rw e s

  -- in single and multiple packing
  packed : p.layout < 2 → (from q end : ℕ) → a.q ≤ from → q ≤ end → Ahead p a (record { from = from; next = record { q = q; end = end } })
  packed l from q end on u = record { on = on; ahead = λ _. u; few = λ x. absurd (omega arith); stream = λ x. absurd (omega arith) }

  -- .. at the start of the next data packet
  over : p.layout < 2 → Ahead p a (record { from = a.end; next = record { q = a.end + w; end = a.end + p.datapacket } })
  over l = packed l a.end (a.end + w) (a.end + p.datapacket) (h (omega arith)) (omega (arith, f l))

  streams : p.layout ≡ 2 → (from end : ℕ) → a.q ≤ from → from - a.q < p.size
      → Ahead p a (record { from = from; next = record { q = from + w; end = streamed_at p.datapacket end (from + w) } })
  streams e from end on l =
      record { on = on; ahead = λ _. streamed_past p.datapacket end (from + w); few = λ _. omega (arith, k.sized.size-most); stream = λ _. l }

  ahead : (x : ℕ) → p.layout ≡ x → Ahead p a (standing p w a (crosses_at p w a))
  ahead zero e = ahead-is (rw e) (over (omega arith))
  ahead (suc zero) e =
      by_less a.end (a.q + w) (λ l. ahead-is (rw (e, lt-ltb a.end (a.q + w) l)) (over (omega arith)))
      (λ l. ahead-is (rw (e, le-ltb a.end (a.q + w) l)) (packed (omega arith) a.q (a.q + w) a.end (omega arith) l))
  ahead (suc (suc zero)) e =
      by_less a.end (a.q + p.size)
      (λ l. ahead-is (rw (e, lt-ltb a.end (a.q + p.size) l))
      (streams e a.end (a.end + p.datapacket) (h (omega arith)) (omega (arith, k.sized.size-least))))
      (λ l. ahead-is (rw (e, le-ltb a.end (a.q + p.size) l)) (streams e a.q a.end (omega arith) (omega (arith, k.sized.size-least))))
  ahead (suc (suc (suc zero))) e =
      let i = aligned_power k.sized.aligned in
      let l = pad_less p.align (a.q + 1) i.low in
      rw e (record { on = omega arith; ahead = λ x. absurd (omega arith); few = λ _. omega (arith, i.high); stream = λ x. absurd (omega arith) })
  ahead (suc (suc (suc (suc zero)))) e =
      rw e (record { on = omega arith; ahead = λ x. absurd (omega arith); few = λ _. omega arith; stream = λ x. absurd (omega arith) })
  ahead (suc (suc (suc (suc (suc x))))) e = absurd (omega (arith, k.layout-most))

-- a length that fits from a place on, and a list of them
pub record Fit (p : Plan) (a : At) (n : ℕ) : Type 0 where
  pub is : misfit p a n ≡ false

pub record Clear (p : Plan) (a : At) (ns : List ℕ) : Type 0 where
  pub none : misfit_at p a ns ≡ length ns

module _ {p : Plan} (k : Formed p) {a : At} {n : ℕ} (f : Fit p a n) where
  short : eqb n 0 || ltb (limit_of p) n ≡ false
  short = or_left (eqb n 0 || ltb (limit_of p) n) _ f.is

  pub fit-limit : n ≤ limit_of p
  fit-limit = ltb-false (limit_of p) n (or_right (eqb n 0) (ltb (limit_of p) n) short)

  -- in single and multiple packing its message fits a data packet
  pub fit-packet : p.layout < 2 → whole_of p n ≤ p.datapacket
  fit-packet l =
      let y : limit_of p ≡ min p.longest (p.datapacket - p.size) = rw (lt-ltb p.layout 2 l) in
      let z : eqb p.layout 3 ≡ false = ne_eqb p.layout 3 (λ e. omega arith) in
      let s = k.sized in
      rw z (whole-fits s.aligned (k.eights l) (omega (arith, fit-limit, s.size-most, s.cut-least)))

  -- in a frame its packet ends inside
  pub fit-frame : p.layout ≡ 3 → (spot p a n).next.q ≤ p.datapacket
  fit-frame e =
      let y = or_right (eqb n 0 || ltb (limit_of p) n) (eqb p.layout 3 && ltb p.datapacket (spot p a n).next.q) f.is in
      ltb-false p.datapacket (spot p a n).next.q (rw (eq-eqb p.layout 3 e) at y)

  pub fit-ahead : (p.layout < 3 → a.q ≤ a.end) → Ahead p a (spot p a n)
  unfolding spot
  fit-ahead h = ahead k h fit-packet p.layout refl

---- All messages ---------------------------------------------------------------------------------------------------------------

-- where all fit, the first does, and those behind it
pub clear_first : {p : Plan} {a : At} {n : ℕ} {ns : List ℕ} → Clear p a (n ∷ ns) → Fit p a n × Clear p (spot p a n).next ns
unfolding misfit_at
clear_first {p} {a} {n} {ns} c =
    by_test (misfit p a n) (λ g. let e : 0 ≡ suc (length ns) = rw g at c.none in absurd (omega arith))
    (λ g. let e : suc (misfit_at p (spot p a n).next ns) ≡ suc (length ns) = rw g at c.none in
    (record { is = g }, record { none = omega arith }))

-- none that does not fit comes behind the last
misfit-most : (p : Plan) (a : At) (ns : List ℕ) → misfit_at p a ns ≤ length ns
unfolding misfit_at
misfit-most p a [] = omega arith
misfit-most p a (n ∷ ns) =
    by_test (misfit p a n) (λ g. rw g (omega arith)) (λ g. rw g (omega (arith, misfit-most p (spot p a n).next ns)))

pub all_clear : {p : Plan} {a : At} {ns : List ℕ} → length ns ≤ misfit_at p a ns → Clear p a ns
all_clear {p} {a} {ns} h = record { none = omega (arith, misfit-most p a ns) }

-- a message of some bytes stands before the place behind it
pub spot_past : (p : Plan) (a : At) (n : ℕ) → (spot p a n).next.q ≡ (spot p a n).from + whole_of p n
unfolding spot
spot_past p a n = refl

-- the messages end behind where they start, by no less than their packets have
pub reach-past : {p : Plan} → Formed p → {a : At} → (p.layout < 3 → a.q ≤ a.end) → (ns : List ℕ) → Clear p a ns
    → a.q + sum ns ≤ (reach p a ns).q
unfolding reach
reach-past k h [] e = omega arith
reach-past {p} k {a} h (n ∷ ns) e =
    let (f, g) = clear_first e in
    let s = fit-ahead k f h in
    omega (arith, s.on, spot_past p a n, behind-on p (p.size + n), reach-past k {a = (spot p a n).next} s.ahead ns g)

-- and not past the end of a data packet
pub reach-ahead : {p : Plan} → Formed p → {a : At} → (p.layout < 3 → a.q ≤ a.end) → (ns : List ℕ) → Clear p a ns
    → p.layout < 3 → (reach p a ns).q ≤ (reach p a ns).end
unfolding reach
reach-ahead k h [] e = h
reach-ahead {p} k {a} h (n ∷ ns) e = let (f, g) = clear_first e in reach-ahead k {a = (spot p a n).next} (fit-ahead k f h).ahead ns g
