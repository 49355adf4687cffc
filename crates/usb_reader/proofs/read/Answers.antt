-- The plan decides.
use Rattle.std.proofs.Common.{arith, ◌≡◌, sym, ◌∙◌}
use Rattle.std.proofs.lemmas.Result.{err_from_is_err_and}
use Rattle.packet.specs.declared.Reason.TheVariants.{Unsound}
use Rattle.packet.specs.Said.{refusal_at}
use Rattle.usb_reader.proofs.ReadsLaws.{planned, sound_so, unsound}
use Rattle.usb_reader.proofs.read.Goals as goal

pub returns-in_err-p : goal.returns-in_err-p
returns-in_err-p c =
    let r = err_from_is_err_and c.from_residual.result c.from_residual.ensures.1 in
    let e : c.in_err-p.field-0.0 ≡ refusal_at Unsound 0 = grind arith in
    rw (r.1, r.2, e) (unsound _ _ _ _ (sym c.in_err-p.ensures.ok_part ∙ c.plan_for.ensures))

pub read_planned-requires : goal.read_planned-requires
read_planned-requires c = planned _ (sym c.in_ok-p.ensures.ok_part ∙ c.plan_for.ensures)

pub returns : goal.returns
returns c = sound_so _ _ _ _ (sym c.in_ok-p.ensures.ok_part ∙ c.plan_for.ensures) c.read_planned.ensures
