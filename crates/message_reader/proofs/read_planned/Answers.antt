-- The state, the length, what is read, and the room decide, in this order.
use Rattle.std.proofs.Common.{sym, ◌∙◌, arith}
use Rattle.std.proofs.lemmas.Result.{err_from_is_err_and}
use borrow.Author.Tests.{ltb-true, ltb-false}
use Rattle.message_reader.proofs.ReadsLaws.{not-valid, long, refused-so, crowded, roomy, rows-given}
use Rattle.message_reader.proofs.read_planned.Goals as goal

pub returns-then-not-valid : goal.returns-then-not-valid
returns-then-not-valid g c = rw c.whole.ensures (not-valid _ _ _ _ c.if-not-valid.ensures)

pub returns-then-most-t : goal.returns-then-most-t
returns-then-most-t g c = rw c.whole-then-most-t.ensures (long _ _ _ _ c.if-not-valid.ensures (omega arith))

pub returns-in_err-k : goal.returns-in_err-k
returns-in_err-k g c =
    let r = err_from_is_err_and c.from_residual.result c.from_residual.ensures.1 in
    rw (r.1, r.2) (refused-so _ _ _ _ c.if-not-valid.ensures (omega arith) c.in_err-k.ensures)

pub returns-then-few : goal.returns-then-few
returns-then-few g c =
    rw c.whole-then-few.ensures
    (crowded _ _ _ _ c.if-not-valid.ensures (omega arith) c.in_ok-k.ensures (ltb-true _ _ (sym c.few.ensures ∙ c.if-few.true)))

pub fill-state-requires : goal.fill-state-requires
fill-state-requires g c =
    roomy c.requires c.if-not-valid.ensures (omega arith) c.in_ok-k.ensures (ltb-false _ _ (sym c.few.ensures ∙ c.if-few.false))

pub returns : goal.returns
returns g c =
    rows-given _ _ _ _ c.if-not-valid.ensures (omega arith) c.in_ok-k.ensures (ltb-false _ _ (sym c.few.ensures ∙ c.if-few.false))
    c.fill-state.ensures
