-- The next word is of the kind, or it is wrong.
use mathlib.Core.Path.{sym}
use Rattle.description.proofs.TurnLaws.{gives_on}
use Rattle.expecting.proofs.ExpectingLaws.{expect_word, expect_other, expect_stop}
use Rattle.expecting.proofs.expect.Goals as goal

pub returns-in_err-word : goal.returns-in_err-word
returns-in_err-word c = rw (gives_on c.from_residual.result c.from_residual.ensures) (expect_stop _ c.in_err-word.ensures)

pub returns-in_err-said : goal.returns-in_err-said
returns-in_err-said c =
    let s = rw (c.bytes.ensures) at c.says.ensures in
    rw (gives_on c.from_residual-in_err-said.result c.from_residual-in_err-said.ensures)
    (expect_other _ c.in_ok-word.ensures (rw s at (sym c.in_err-said.ensures.value)))

pub returns : goal.returns
returns c =
    let s = rw (c.bytes.ensures) at c.says.ensures in
    expect_word _ c.in_ok-word.ensures (rw s at (sym c.in_ok-said.ensures.value))
