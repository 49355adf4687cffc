-- What is written by the plan of a setting is what the definition says.
use Prim.Native.Nat.{ℕ}
use mathlib.Core.Path.{◌≡◌, refl, sym, ◌∙◌}
use mathlib.Core.Bool.{Bool, true, false}
use mathlib.Core.List.{List}
use borrow.Author.Rules.{rules}
use Rattle.packet.specs.Answer.{write_refused, settled, weighed}
use Rattle.packet.proofs.AnswerLaws.{gives_so}
use Rattle.plan.specs.declared.Plan.{Plan}
use Rattle.plan.specs.Plan.{Messages}
use Rattle.sizing.specs.Sizes.{first}
use Rattle.message_writer.specs.Writes.{writes_by}
use Rattle.udp.specs.declared.Setting.{Setting}
use Rattle.udp.specs.Plan.{plan_of}
use Rattle.udp.specs.Setting.{fields, sound}
use Rattle.udp.specs.Writing.{composed, write_of}
use Rattle.udp.proofs.PlanLaws.{messages}
use Rattle.udp_writer.proofs.DatagramLaws.{index_is, output_is}

module _ (bs ns : List ℕ) (c : ℕ) (out : List ℕ) (s : Setting) where
  answer-is : sound s ≡ true → writes_by (plan_of s) bs ns c 0 false out ≡ write_of s bs ns c out
  unfolding writes_by write_of composed fields
  answer-is k = rw (k, index_is s (first 0) ns, output_is s bs ns c)

  module _ {b : Bool} (i : b ≡ sound s) where
    pub sound_so : b ≡ true → {p : Plan} → p ≡ plan_of s → write_of s bs ns c out ≡ writes_by p bs ns c 0 false out
    sound_so e f = sym (answer-is (sym i ∙ e)) ∙ rw (← f)

    pub unsound : b ≡ false → write_of s bs ns c out ≡ write_refused out 1 0
    unfolding write_of composed weighed settled
    unsound e = rw (sym i ∙ e)

module _ (s : Setting) {p : Plan} (f : p ≡ plan_of s) where
  pub planned : {b : Bool} → b ≡ sound s → b ≡ true → Messages p
  planned i e = rw f (messages s (sym i ∙ e))

  pub datagram : 4 ≡ p.layout
  datagram = rw f refl

pub ruleset plans = (rules, gives_so, planned, datagram, sound_so, unsound)
