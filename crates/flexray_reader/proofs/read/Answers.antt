-- The setting, the state, what is judged, and the room decide, in this order.
use Rattle.std.proofs.Common.{arith, rules, ◌≡◌, sym, ◌∙◌}
use Rattle.std.proofs.lemmas.Result.{err_from_is_err_and}
use borrow.Author.Tests.{ltb-true, ltb-false}
use Rattle.packet.specs.declared.Reason.TheVariants.{Unsound}
use Rattle.packet.specs.Said.{refusal_at}
use Rattle.flexray_reader.proofs.ReadsLaws.{ready, unsound, not-valid, refused-so, crowded, fillable, rows-given}
use Rattle.flexray_reader.proofs.read.Goals as goal

pub returns-in_err-p : goal.returns-in_err-p
returns-in_err-p c =
    let r = err_from_is_err_and c.from_residual.result c.from_residual.ensures.1 in
    let e : c.in_err-p.field-0.0 ≡ refusal_at Unsound 0 = grind arith in
    rw (r.1, r.2, e) (unsound _ _ _ _ (sym c.in_err-p.ensures.ok_part ∙ c.plan_for.ensures))

pub valid-requires : goal.valid-requires
valid-requires c = let k = ready _ (sym c.in_ok-p.ensures.ok_part ∙ c.plan_for.ensures) in search rules

pub returns-then-not-valid : goal.returns-then-not-valid
returns-then-not-valid c =
    rw c.whole-then-not-valid.ensures (not-valid _ _ _ _ (sym c.in_ok-p.ensures.ok_part ∙ c.plan_for.ensures) c.if-not-valid.ensures)

pub judge_frame-requires : goal.judge_frame-requires
judge_frame-requires c = ready _ (sym c.in_ok-p.ensures.ok_part ∙ c.plan_for.ensures)

pub returns-in_err-k : goal.returns-in_err-k
returns-in_err-k c =
    let r = err_from_is_err_and c.from_residual-in_err-k.result c.from_residual-in_err-k.ensures.1 in
    rw (r.1, r.2)
    (refused-so _ _ _ _ (sym c.in_ok-p.ensures.ok_part ∙ c.plan_for.ensures) c.if-not-valid.ensures c.in_err-k.ensures)

pub returns-then-few : goal.returns-then-few
returns-then-few c =
    rw c.whole-then-few.ensures
    (crowded _ _ _ _ (sym c.in_ok-p.ensures.ok_part ∙ c.plan_for.ensures) c.if-not-valid.ensures c.in_ok-k.ensures
    (ltb-true _ _ (sym c.few.ensures ∙ c.if-few.true)))

pub fill-state-requires : goal.fill-state-requires
fill-state-requires c =
    fillable (ready _ (sym c.in_ok-p.ensures.ok_part ∙ c.plan_for.ensures)) c.if-not-valid.ensures c.in_ok-k.ensures
    (ltb-false _ _ (sym c.few.ensures ∙ c.if-few.false))

pub returns : goal.returns
returns c =
    rows-given _ _ _ _ (sym c.in_ok-p.ensures.ok_part ∙ c.plan_for.ensures) c.if-not-valid.ensures c.in_ok-k.ensures
    (ltb-false _ _ (sym c.few.ensures ∙ c.if-few.false)) c.fill-state.ensures
