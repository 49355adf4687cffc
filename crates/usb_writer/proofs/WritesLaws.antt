-- What is written by the plan of a setting is what the definition says.
use Prim.Native.Nat.{ℕ, ◌<◌}
use mathlib.Core.Path.{◌≡◌, sym, ◌∙◌}
use mathlib.Core.Bool.{Bool, true}
use mathlib.Core.List.{List}
use lib.ListN.{length}
use borrow.Author.Rules.{rules}
use Rattle.layout.proofs.TestLaws.{why_failed}
use Rattle.packet.specs.Answer.{write_refused, settled, weighed}
use Rattle.packet.specs.Counter.{holds}
use Rattle.packet.specs.Packets.{mismatched}
use Rattle.packet.proofs.AnswerLaws.{gives_so}
use Rattle.packet.proofs.PacketsLaws.{mismatch_tells}
use Rattle.packet.proofs.WeighLaws.{weighed-same}
use Rattle.plan.specs.declared.Plan.{Plan}
use Rattle.std.specs.Prelude.{Option, Some, None}
use Rattle.plan.specs.Plan.{Messages}
use Rattle.sizing.specs.Sizes.{misfit_at, first}
use Rattle.sizing.proofs.ReachLaws.{all_clear}
use Rattle.message_writer.specs.Writes.{writes_by}
use Rattle.usb.specs.declared.Setting.{Setting}
use Rattle.usb.specs.Writing.{composed, write_of}
use Rattle.usb_plan.specs.Plan.{setting, planned_of, Ready}
use Rattle.usb_plan.proofs.PlanLaws.{planned-ready, unplanned, messages, most-is}
use Rattle.usb_writer.proofs.TransferLaws.{index_is, output_is}

module _ (bs ns : List ℕ) (c fill : ℕ) (full : Bool) (out : List ℕ) where
  answer-is : {p : Plan} → Ready p → writes_by p bs ns c fill full out ≡ write_of (setting p) bs ns c fill full out
  unfolding writes_by write_of composed
  answer-is {p} k =
      let same = weighed-same true (holds p.ctrwidth c) (mismatched ns bs) (misfit_at p (first 0) ns) (length ns)
      (λ m l. output_is k bs ns c fill full (why_failed (mismatch_tells ns bs) m).same (all_clear l)) in
      rw (k.ok, ← k.ctrwidth, most-is k, index_is k (first 0) ns, same)

  module _ (s : Setting) {r : Option Plan} (i : r ≡ planned_of s) where
    pub sound_so : {p : Plan} → r ≡ Some p → write_of s bs ns c fill full out ≡ writes_by p bs ns c fill full out
    sound_so e = let (f, k) = planned-ready (sym e ∙ i) in sym (answer-is k ∙ rw f)

    pub unsound : r ≡ None → write_of s bs ns c fill full out ≡ write_refused out 1 0
    unfolding write_of composed weighed settled
    unsound e = rw (unplanned s (sym e ∙ i))

module _ (s : Setting) {r : Option Plan} {p : Plan} (i : r ≡ planned_of s) (e : r ≡ Some p) where
  pub planned : Messages p
  planned = messages (planned-ready (sym e ∙ i)).1

  pub packed : p.layout < 3
  packed = (planned-ready (sym e ∙ i)).1.layout

pub ruleset plans = (rules, gives_so, planned, sound_so, unsound)
