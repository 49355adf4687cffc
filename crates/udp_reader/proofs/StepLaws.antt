-- The one law of UDP about the step: it tells what the definition says is ahead.
use Prim.Native.Nat.{ℕ, ◌+◌, ◌≤◌, min}
use native.Mathlib.Omega.{arith}
use native.Mathlib.Nat.{add-zero}
use mathlib.Core.Path.{◌≡◌, refl, sym, ◌∙◌}
use mathlib.Core.List.{List, [], ◌∷◌}
use lib.ListN.{length}
use borrow.Author.Tests.{le-leb}
use Rattle.layout.specs.Walk.{after, before}
use Rattle.layout.proofs.WalkLaws.{walk_eq}
use Rattle.packet.specs.declared.At.{At}
use Rattle.packet.specs.Seen.{Seen}
use Rattle.packet.specs.Seen.{message, as_step}
use Rattle.reading.specs.Loops.{Standing}
use Rattle.reading.specs.Reads.{Tells}
use Rattle.reading.specs.Step.{len, next, there, Says}
use Rattle.reading.specs.Step.{seen as seen_by}
use Rattle.reading.proofs.ViewLaws.{View, View.rest, View.empty, View.cut, View.zeroed, View.nothing, View.over, View.past, view}
use Rattle.reading.proofs.ViewLaws.{View.message as fitting}
use Rattle.udp.specs.declared.Setting.{Setting}
use Rattle.udp.specs.Plan.{plan_of}
use Rattle.udp.specs.Reading.{step, ahead}
use Rattle.udp.specs.Setting.{fields, H}
use Rattle.udp.proofs.LaidLaws.{forward}
use Rattle.udp.proofs.SeenLaws as U
use Rattle.udp.proofs.SeenLaws.{decided}

-- every place stands as the first does
abbrev pub Stands : At → Type 0
Stands a = Unit {0}

module _ (s : Setting) (t : List ℕ) where
  -- what is ahead of a place, by what is seen there
  ahead-by : (q : ℕ) {v : Seen} → U.View s t q v → ahead s t q ≡ after (ahead s t) (as_step t v)
  unfolding ahead
  ahead-by q v = rw (walk_eq (step s t) (length t) (forward s t) q, decided s t q v)

  module _ (a : At) (k : Standing (plan_of s) t a) where
    -- the loop reads the LEN of a header that fits
    len_is : a.q + H ≤ length t → len (plan_of s) t a ≡ U.len s t a.q
    unfolding fields
    len_is h = rw (le-leb (a.q + H) (min a.end (length t)) (omega (arith, k.whole (omega arith))), add-zero a.q)

    module _ (y : Says (plan_of s) t a) where
      fits : a.q + H ≤ length t
      unfolding fields
      fits = omega (arith, y.fits)

      said : len (plan_of s) t a ≡ U.len s t a.q
      said = len_is fits

      -- where its message would end
      next-is : next (plan_of s) t a ≡ a.q + (H + len (plan_of s) t a)
      unfolding fields
      next-is = omega arith

      tells_message : len (plan_of s) t a ≤ s.longest → next (plan_of s) t a ≤ length t
          → ahead s t a.q ≡ before (message t (there (plan_of s) t a) ∷ []) (ahead s t (next (plan_of s) t a))
      unfolding fields
      tells_message l u =
          ahead-by a.q (U.View.message (omega (arith, said, y.some)) (omega (arith, said)) (omega (arith, said, next-is)))
          ∙ rw (← said, next-is)

    told : {v : Seen} → View (plan_of s) t a v → Tells (ahead s t) Stands t a v
    unfolding fields
    told (rest g u z l) = absurd (omega arith)
    told (empty e z l) = absurd (omega arith)
    told (cut e l u) = ahead-by a.q (U.View.few l u)
    told (zeroed e z h) = ahead-by a.q (U.View.zeroed h (sym (len_is h) ∙ z))
    told (nothing z f g h) = ahead-by a.q (U.View.gone (h refl))
    told (over y f l) = ahead-by a.q (U.View.over (fits y) (omega (arith, said y)))
    told (past y f l) =
        let x = f (λ e. omega arith) in
        ahead-by a.q (U.View.past (fits y) (omega (arith, said y, y.some)) (omega (arith, said y)) (omega (arith, said y, next-is y)))
    told (fitting y f l) = (tells_message y (f (λ e. omega arith)) l, tt)

  pub tells : (a : At) → Standing (plan_of s) t a → Stands a → Tells (ahead s t) Stands t a (seen_by (plan_of s) t a)
  tells a k h = told a k (view (plan_of s) t a)
