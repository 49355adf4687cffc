-- What is read by the plan of a setting is what the definition says.
use Prim.Native.Nat.{ℕ, ◌≤◌}
use native.Mathlib.Omega.{arith}
use native.Mathlib.Nat.{mod_self, zero-mod}
use mathlib.Core.Path.{◌≡◌, sym, ◌∙◌}
use mathlib.Core.Bool.{true, false}
use mathlib.Core.List.{List}
use lib.ListN.{length}
use borrow.Author.Tests.{le-ltb}
use Rattle.packet.specs.declared.Counter.{Counter}
use Rattle.packet.specs.Reading.{Reading, Reading as R}
use Rattle.packet.specs.Answer.{Gives, bounded}
use Rattle.packet.specs.Counter.{valid}
use Rattle.packet.specs.Limit.{most_bytes}
use Rattle.packet.proofs.AnswerLaws.{gives, gives_so}
use Rattle.packet.proofs.ReadTableLaws.{bounded-same}
use Rattle.plan.specs.declared.Plan.{Plan}
use Rattle.std.specs.Prelude.{Some, None}
use Rattle.plan.specs.Plan.{most_of}
use Rattle.message_reader.specs.Reads.{first, answer_by, Kind}
use Rattle.message_reader.proofs.ReadsLaws.{first-standing}
use Rattle.reading.specs.Reads.{reads}
use Rattle.reading.proofs.WalkLaws.{ahead-reads}
use Rattle.rows.proofs.AnswerLaws.{not_sound}
use Rattle.usb.specs.declared.Setting.{Setting}
use Rattle.usb.specs.Setting.{W}
use Rattle.usb.specs.Reading.{ahead, judged, read_of}
use Rattle.usb_plan.specs.Plan.{setting, planned_of, Ready}
use Rattle.usb_plan.proofs.PlanLaws.{planned-ready, unplanned, messages, most-is}
use Rattle.usb_reader.proofs.StepLaws.{Stands, tells}

module _ {p : Plan} (k : Ready p) (t : List ℕ) where
  first_stands : Stands p (first p)
  first_stands = record { cut = mod_self p.datapacket; aligned = zero-mod p.align; single = λ e. omega arith }

  -- what is read from the start is what the definition says is ahead
  ahead-is : length t ≤ most_bytes → reads p t (first p) ≡ ahead (setting p) t 0
  ahead-is l =
      let m : length t ≤ most_of p = rw (most-is k) l in
      sym (ahead-reads (ahead (setting p) t) (Stands p) (tells k t) (first-standing t (messages k) m) first_stands)

  pub answer-is : (c : Counter) (rows : List ℕ) → answer_by p t c rows ≡ read_of (setting p) t c rows
  unfolding answer_by read_of judged
  answer-is c rows = rw (k.ok, ← k.ctrwidth, most-is k, bounded-same true most_bytes (length t) ahead-is)

pub planned : (s : Setting) {p : Plan} → Some p ≡ planned_of s → Kind false p
planned s i =
    let k = (planned-ready i).1 in
    let l = k.layout in
    record { messages = messages k; is = sym (le-ltb 2 _ (omega arith)) }

module _ (s : Setting) (t : List ℕ) (c : Counter) (rows : List ℕ) where
  pub sound_so : {p : Plan} → Some p ≡ planned_of s → {a : Reading} {new : List ℕ} → Gives (answer_by p t c rows) a new
      → Gives (read_of s t c rows) a new
  sound_so i = let (f, k) = planned-ready i in gives_so (sym (answer-is k t c rows ∙ rw f))

  pub unsound : None ≡ planned_of s → Gives (read_of s t c rows) (R.Refused 1 0) rows
  unfolding read_of judged bounded
  unsound i = gives (rw (unplanned s i) (not_sound _ _ _ (valid (W s) c)))
