-- Places, and the ends of their data packets; and what follows by the layout.
use Prim.Native.Nat.{ℕ, ◌+◌, ◌-◌, ◌*◌, ◌/◌, ◌%◌, ◌<◌, ◌≤◌}
use native.Mathlib.Omega.{arith}
use native.Mathlib.Nat.{mod-lt, add-mod_right, div-add-mod', add-mul, one-mul, mul-mod_left, lt_of_mul-lt-mul_right}
use mathlib.Core.Path.{◌≡◌, refl, ap, ◌∙◌}
use mathlib.Core.Bool.{true, or-true}
use lib.Dec.{eqb}
use borrow.Author.Tests.{lt-ltb, le-ltb, eq-eqb, eqb-true, eqb-false}
use Rattle.layout.proofs.MultipleLaws.{pad_less}
use Rattle.packet.specs.declared.At.{At}
use Rattle.plan.specs.declared.Plan.{Plan}
use Rattle.plan.specs.Place.{rests, header_at, behind_at, streamed_at, packet_after, on_at}
use Rattle.plan.proofs.CaseLaws.{by_test, by_less}

-- the end in which a stream's place stands is at most one end on, or is found by a division
streamed_by : (m end q : ℕ) (P : ℕ → Type 0) → (q < end → P end) → (end ≤ q → q < end + m → P (end + m))
    → (end ≤ q → P (q + (m - q % m))) → P (streamed_at m end q)
streamed_by m end q P here next far =
    by_less q end (λ l. rw (lt-ltb q end l, lt-ltb q end l) (here l))
    (λ g. by_less q (end + m) (λ l. rw (le-ltb q end g, lt-ltb q (end + m) l) (next g l)) (λ l. rw (le-ltb q end g, le-ltb q (end + m) l) (far g)))

module _ (m : ℕ) (h : 0 < m) where
  -- the end of a data packet is the start of the next one
  pub end_starts : (q : ℕ) → (q + (m - q % m)) % m ≡ 0
  end_starts q =
      let e : q + (m - q % m) ≡ (q / m + 1) * m = omega (arith, add-mul (q / m) 1 m, one-mul m, div-add-mod' q m, mod-lt q h) in
      rw e (mul-mod_left (q / m + 1) m)

  -- a cut beyond a place, by no more than a data packet, is the end of the place's data packet
  pub end_only : (q e : ℕ) → e % m ≡ 0 → q < e → e ≤ q + m → e ≡ q + (m - q % m)
  end_only q e z l u =
      let d = div-add-mod' q m in
      let f = div-add-mod' e m in
      let r = mod-lt q h in
      let low : q / m < e / m = lt_of_mul-lt-mul_right m (omega arith) in
      let up : e / m < q / m + 2 = lt_of_mul-lt-mul_right m (omega (arith, add-mul (q / m) 2 m)) in
      let k : e / m ≡ q / m + 1 = omega arith in
      let i : e / m * m ≡ (q / m + 1) * m = ap (λ x. x * m) k in
      omega (arith, add-mul (q / m) 1 m, one-mul m)

  -- a place in a data packet
  pub in_packet : (q e : ℕ) → e % m ≡ 0 → q < e → e ≤ q + m → m - q % m ≡ e - q
  in_packet q e z l u = omega (arith, end_only q e z l u, mod-lt q h)

  -- where a stream goes on
  pub streamed_is : (e q : ℕ) → e % m ≡ 0 → e ≤ q + m → streamed_at m e q ≡ q + (m - q % m)
  streamed_is e q z u =
      streamed_by m e q (λ r. r ≡ q + (m - q % m)) (λ l. end_only q e z l u)
      (λ g l. end_only q (e + m) (add-mod_right e m ∙ z) l (omega arith)) (λ g. refl)

-- beyond a stream's place, by no more than a data packet, and not before the end that was left behind
pub record Streamed (m end q r : ℕ) : Type 0 where
  pub past : q < r
  pub near : r ≤ q + m
  pub on : end ≤ r

pub streamed_on : (m end q : ℕ) → 0 < m → end ≤ q + m → Streamed m end q (streamed_at m end q)
streamed_on m end q h u =
    let l = mod-lt q h in
    streamed_by m end q (Streamed m end q) (λ k. record { past = k; near = u; on = omega arith })
    (λ g k. record { past = k; near = omega arith; on = omega arith })
    (λ g. record { past = omega arith; near = omega arith; on = omega arith })

-- .. whatever end was left behind
pub streamed_past : (m end q : ℕ) → q ≤ streamed_at m end q
streamed_past m end q = streamed_by m end q (λ r. q ≤ r) (λ l. omega arith) (λ g l. omega arith) (λ g. omega arith)

---- By the layout --------------------------------------------------------------------------------------------------------------

module _ (p : Plan) where
  -- data packets may end with a rest in multiple packing and in a stream
  pub rests_true : 0 < p.layout → p.layout < 3 → rests p ≡ true
  rests_true l u =
      by_less p.layout 2 (λ g. rw (eq-eqb p.layout 1 (omega arith))) (λ g. rw (eq-eqb p.layout 2 (omega arith), or-true))

  pub rests-some : rests p ≡ true → (0 < p.layout) × (p.layout < 3)
  rests-some e =
      by_test (eqb p.layout 1) (λ g. (omega (arith, eqb-true), omega (arith, eqb-true)))
      (λ g. let i = eqb-true p.layout 2 (rw g at e) in (omega arith, omega arith))

  -- the header does not stand before its place, nor the place behind a packet before its end
  pub header-on : (q : ℕ) → q ≤ header_at p q
  header-on q = by_test (eqb p.layout 3) (λ g. rw g (omega arith)) (λ g. rw g (omega arith))

  pub behind-on : (e : ℕ) → e ≤ behind_at p e
  behind-on e = by_test (eqb p.layout 3) (λ g. rw g (omega arith)) (λ g. rw g (omega arith))

  -- an alignment of 1 leaves no tail
  pub untailed : p.align ≡ 1 → (e : ℕ) → behind_at p e ≡ e
  untailed h e =
      by_test (eqb p.layout 3) (λ g. rw g) (λ g. let l = pad_less p.align e (omega arith) in rw g (omega arith))

  -- the place behind a message
  pub on-by : (a : At) (next : ℕ) (P : At → Type 0) → (p.layout ≡ 0 → P (packet_after p a))
      → (p.layout ≡ 2 → P (record { q = next; end = streamed_at p.datapacket a.end next }))
      → ((p.layout ≡ 0 → ⊥) → (p.layout ≡ 2 → ⊥) → P (record { q = next; end = a.end })) → P (on_at p a next)
  on-by a next P single stream other =
      by_test (eqb p.layout 0) (λ g. rw g (single (eqb-true p.layout 0 g)))
      (λ g. by_test (eqb p.layout 2) (λ f. rw (g, f) (stream (eqb-true p.layout 2 f)))
      (λ f. rw (g, f) (other (eqb-false p.layout 0 g) (eqb-false p.layout 2 f))))
