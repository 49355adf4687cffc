-- What the step sees, by cases, and what follows at the place behind it.
use Prim.Native.Nat.{ℕ, ◌+◌, ◌<◌, ◌≤◌, min}
use native.Mathlib.Omega.{arith}
use mathlib.Core.Path.{◌≡◌}
use mathlib.Core.Bool.{false, not, ◌&&◌, ◌||◌, or-true}
use mathlib.Core.List.{List}
use lib.ListN.{length}
use lib.Dec.{leb, ltb, eqb}
use borrow.Author.Rules.{rules}
use borrow.Author.Tests.{ltb-true, ltb-false, leb-true, eqb-true, eqb-false, not-true, eq-eqb, ne_eqb}
use Rattle.layout.proofs.TestLaws.{and_left, and_right}
use Rattle.packet.specs.declared.At.{At}
use Rattle.packet.specs.declared.Found.{Found}
use Rattle.packet.specs.Seen.{Seen, Seen as S}
use Rattle.plan.specs.declared.Plan.{Plan}
use Rattle.plan.specs.Place.{rests, packet_after}
use Rattle.plan.proofs.CaseLaws.{by_test}
use Rattle.plan.proofs.PlaceLaws.{rests_true, rests-some, header-on, behind-on, on-by, streamed_on}
use Rattle.reading.specs.Step.{past_at, bare_seen, message_by, head, len, next, limit, there, next_at, seen, Says}
use Rattle.reading.specs.Loops.{Standing}
use Rattle.reading.specs.Reads.{turns}

module _ (p : Plan) (t : List ℕ) (a : At) where
  pub data View : Seen → Type 0 where
    rest : 0 < p.layout → p.layout < 3 → len p t a ≡ 0 → a.end < length t → View (S.Rest (packet_after p a))
    empty : p.layout ≡ 0 → len p t a ≡ 0 → a.q < length t → View (S.Refused 6 a.q)
    cut : p.layout ≡ 4 → a.q < length t → length t < head p t a + p.size → View (S.Refused 5 a.q)
    zeroed : p.layout ≡ 4 → len p t a ≡ 0 → head p t a + p.size ≤ length t → View (S.Refused 6 a.q)
    nothing : len p t a ≡ 0 → (0 < p.layout → p.layout < 3 → length t ≤ a.end) → (p.layout ≡ 0 → length t ≤ a.q)
        → (p.layout ≡ 4 → length t ≤ a.q) → View S.Nothing
    over : Says p t a → (p.layout ≡ 3 → ⊥) → p.longest < len p t a → View (S.Refused 3 (head p t a))
    past : Says p t a → ((p.layout ≡ 3 → ⊥) → len p t a ≤ p.longest) → limit p t a < next p t a → View (S.Refused 5 (head p t a))
    message : Says p t a → ((p.layout ≡ 3 → ⊥) → len p t a ≤ p.longest) → next p t a ≤ limit p t a
        → View (S.Message (there p t a) (next_at p t a))

  -- a length that is not 0 stands in a header that fits
  pub says : (len p t a ≡ 0 → ⊥) → Says p t a
  says z =
      by_test (leb (head p t a + p.size) (min a.end (length t)))
      (λ g. record { fits = leb-true (head p t a + p.size) (min a.end (length t)) g; is = rw g; some = omega (arith, z) })
      (λ g. absurd (z (rw g)))

  -- a longest packet is asked for in every layout but a frame
  short : (n : ℕ) → not (eqb p.layout 3) && ltb p.longest n ≡ false → (p.layout ≡ 3 → ⊥) → n ≤ p.longest
  short n g h = ltb-false p.longest n (rw (ne_eqb p.layout 3 h) at g)

  -- where LEN is 0 or no header fits, and where it says a length
  bare : len p t a ≡ 0 → View (bare_seen p (length t) a (head p t a))
  bare n =
      by_test (rests p && ltb a.end (length t))
      (λ r. let (l, u) = rests-some p (and_left _ _ r) in rw r (rest l u n (ltb-true _ _ (and_right (rests p) _ r))))
      (λ r. by_test ((eqb p.layout 0 || eqb p.layout 4) && ltb a.q (length t))
      (λ e. let l = ltb-true a.q (length t) (and_right (eqb p.layout 0 || eqb p.layout 4) _ e) in
      by_test (eqb p.layout 0)
      (λ z. let i = eqb-true p.layout 0 z in rw (r, e, ne_eqb p.layout 4 (λ x. omega arith)) (empty i n l))
      (λ z. let y = and_left (eqb p.layout 0 || eqb p.layout 4) _ e in let i = eqb-true p.layout 4 (rw z at y) in
      by_test (ltb (length t) (head p t a + p.size)) (λ s. rw (r, e, eq-eqb p.layout 4 i, s) (cut i l (ltb-true _ _ s)))
      (λ s. rw (r, e, eq-eqb p.layout 4 i, s) (zeroed i n (ltb-false _ _ s)))))
      (λ e. rw (r, e)
      (nothing n (λ l u. ltb-false _ _ (rw (rests_true p l u) at r)) (λ h. ltb-false _ _ (rw (eq-eqb p.layout 0 h) at e))
      (λ h. ltb-false _ _ (rw (eq-eqb p.layout 4 h, or-true) at e)))))

  said : Says p t a → View (message_by (not (eqb p.layout 3) && ltb p.longest (len p t a)) (ltb (limit p t a) (next p t a))
      (head p t a) (there p t a) (next_at p t a))
  said h =
      by_test (not (eqb p.layout 3) && ltb p.longest (len p t a))
      (λ o. rw o (over h (eqb-false _ _ (not-true _ (and_left _ _ o))) (ltb-true _ _ (and_right (not (eqb p.layout 3)) _ o))))
      (λ o. by_test (ltb (limit p t a) (next p t a)) (λ q. rw (o, q) (past h (short _ o) (ltb-true _ _ q)))
      (λ q. rw (o, q) (message h (short _ o) (ltb-false _ _ q))))

  pub view : View (seen p t a)
  unfolding seen
  view = by_test (eqb (len p t a) 0) (λ z. rw z (bare (eqb-true _ _ z))) (λ z. rw z (said (says (eqb-false _ _ z))))

-- the place behind a packet is not before its end
past-on : (p : Plan) (e : ℕ) → e ≤ past_at p e
past-on p e = by_test (ltb 2 p.layout) (λ g. rw g (omega arith)) (λ g. rw g (behind-on p e))

---- The place behind -----------------------------------------------------------------------------------------------------------

-- the place moves on, and the turns that are left get fewer
pub record Moved (p : Plan) (t : List ℕ) (a b : At) : Type 0 where
  pub standing : Standing p t b
  pub on : a.q ≤ b.q
  pub less : turns t b < turns t a

pub record Crossed (p : Plan) (t : List ℕ) (a : At) (m : Found) (b : At) : Type 0 where
  pub moved : Moved p t a b
  pub from : a.q < length t
  pub on : a.q < b.q
  pub some : 0 < m.len
  pub inside : m.at + m.len ≤ length t

module _ {p : Plan} {t : List ℕ} {a : At} (s : Standing p t a) where
  -- up to where a message may reach lies in the input; and in its data packet, but in a stream
  limit_in : limit p t a ≤ length t
  limit_in = by_test (ltb p.layout 2) (λ g. rw g (omega arith)) (λ g. rw g (omega arith))

  limit-end : (p.layout ≡ 2 → ⊥) → limit p t a ≤ a.end
  limit-end f = by_test (ltb p.layout 2) (λ g. rw g (omega arith)) (λ g. rw g (s.whole (omega (arith, f, ltb-false))))

  module _ (h : Says p t a) (w : next p t a ≤ limit p t a) where
    q_in : a.q < min a.end (length t)
    q_in = omega (arith, header-on p a.q, s.sized.size-least)

    ends : head p t a + p.size + len p t a ≤ next p t a
    ends = past-on p _

    goes_on : a.q < next p t a
    goes_on = omega (arith, ends, header-on p a.q, s.sized.size-least)

    crosses_to : Moved p t a (next_at p t a) × (a.q < At.q (next_at p t a))
    crosses_to =
        let i = q_in in
        let g = goes_on in
        let l = limit_in in
        on-by p a (next p t a) (λ b. Moved p t a b × (a.q < b.q)) (λ e. search rules)
        (λ e. let r = streamed_on p.datapacket a.end (next p t a) (omega (arith, s.sized.cut-least)) (omega arith) in search rules)
        (λ e f. let j = limit-end f in search rules)

  pub crosses : {m : Found} {b : At} → View p t a (S.Message m b) → Crossed p t a m b
  crosses (message h l w) =
      let (m, on) = crosses_to h w in
      record { moved = m; from = omega (arith, q_in h w); on = on; some = h.some; inside = omega (arith, ends h w, limit_in) }

  pub passes : {b : At} → View p t a (S.Rest b) → Moved p t a b
  passes (rest g u z l) = search rules

  -- a refusal's place is in the input
  pub refuses : {n q : ℕ} → View p t a (S.Refused n q) → q ≤ length t
  refuses (empty e z l) = omega arith
  refuses (cut e l u) = omega arith
  refuses (zeroed e z l) = omega (arith, header-on p a.q)
  refuses (over h f l) = omega arith
  refuses (past h f l) = omega arith
