-- The one law of FlexRay about the step: behind a packet it tells what the definition says is ahead.
use Prim.Native.Nat.{ℕ, ◌+◌, ◌-◌, ◌<◌, min}
use native.Mathlib.Omega.{arith}
use mathlib.Core.Path.{◌≡◌, refl, ◌∙◌}
use mathlib.Core.List.{List}
use lib.ListN.{length, get_or-eq_default}
use borrow.Author.Tests.{le-leb, lt-leb, ne_eqb, lt-ltb, le-ltb}
use Rattle.layout.specs.Walk.{after}
use Rattle.layout.proofs.WalkLaws.{walk_eq}
use Rattle.packet.specs.declared.At.{At}
use Rattle.packet.specs.Seen.{Seen, Seen as S}
use Rattle.packet.specs.Seen.{as_step}
use Rattle.plan.specs.declared.Plan.{Plan}
use Rattle.plan.proofs.CaseLaws.{by_less}
use Rattle.flexray.specs.Setting.{start}
use Rattle.flexray.specs.Reading.{packet_at, next_len, seen, step, ahead}
use Rattle.flexray.proofs.ReadLaws.{forward}
use Rattle.flexray_plan.specs.Plan.{setting, further_of}
use Rattle.reading.specs.Loops.{Standing}
use Rattle.reading.specs.Reads.{Tells}
use Rattle.reading.specs.Step.{head, len}
use Rattle.reading.specs.Step.{seen as seen_by}
use Rattle.reading.proofs.ViewLaws.{View, View.rest, View.empty, View.cut, View.zeroed, View.nothing, View.over, View.past, View.message, view}

-- a place is the end of a packet, and the frame is one data packet
pub record Stands (t : List ℕ) (a : At) : Type 0 where
  pub begun : 0 < a.q
  pub end : a.end ≡ length t

module _ (p : Plan) (t : List ℕ) (a : At) (h : Stands t a) where
  -- the byte before the next packet is its LEN
  start_is : start p.align a.q ≡ head (further_of p) t a + 1
  unfolding start
  start_is = omega arith

  before-start : start p.align a.q - 1 ≡ head (further_of p) t a
  before-start = omega (arith, start_is)

  len_is : next_len p.align t a.q ≡ len (further_of p) t a
  len_is =
      by_less (min a.end (length t)) (head (further_of p) t a + 1)
      (λ l. rw (before-start, lt-leb _ _ l) (get_or-eq_default t 0 {n = head (further_of p) t a} (omega (arith, h.end))))
      (λ l. rw (before-start, le-leb _ _ l) (omega arith))

  ahead-by : ahead (setting p) t a.q ≡ after (ahead (setting p) t) (as_step t (packet_at t S.Nothing (S.Refused 5 (head (further_of p) t a))
      (head (further_of p) t a + 1) (len (further_of p) t a) 0))
  unfolding ahead seen
  ahead-by =
      rw (
        walk_eq (step (setting p) t) (length t) (forward (setting p) t) a.q,
        ne_eqb a.q 0 (omega (arith, h.begun)),
        len_is,
        before-start,
        start_is,
      )

  told : {v : Seen} → View (further_of p) t a v → Tells (ahead (setting p) t) (Stands t) t a v
  told (rest g u z l) = absurd (omega arith)
  told (empty e z l) = absurd (omega arith)
  told (cut e l u) = absurd (omega arith)
  told (zeroed e z l) = absurd (omega arith)
  told (nothing z f g i) = ahead-by ∙ rw z
  told (over y f l) = absurd (f refl)
  told (past y f l) = ahead-by ∙ rw (ne_eqb (len (further_of p) t a) 0 (omega (arith, y.some)), lt-ltb (length t) _ l)
  told (message y f l) = (
    ahead-by ∙ rw (ne_eqb (len (further_of p) t a) 0 (omega (arith, y.some)), le-ltb (length t) _ l),
    record { begun = omega arith; end = h.end },
  )

pub tells : (p : Plan) (t : List ℕ) (a : At) → Standing (further_of p) t a → Stands t a
    → Tells (ahead (setting p) t) (Stands t) t a (seen_by (further_of p) t a)
tells p t a s h = told p t a h (view (further_of p) t a)
