-- By its name.
use borrow.Author.Rules.{rules}
use Rattle.description.proofs.TurnLaws.{gives_on}
use Rattle.entries.proofs.EntryLaws.{enter_over, enter_over-wrong}
use Rattle.entries.proofs.enter.Goals as goal

pub returns-in_err-behind-in-None : goal.returns-in_err-behind-in-None
returns-in_err-behind-in-None c =
    let n = rw c.bytes.ensures at c.in-None.ensures in
    rw (gives_on c.from_residual.result c.from_residual.ensures) (enter_over-wrong n c.in_err-behind-in-None.ensures)

pub returns-in_ok-behind-in-None : goal.returns-in_ok-behind-in-None
returns-in_ok-behind-in-None c =
    let n = rw c.bytes.ensures at c.in-None.ensures in
    search (rules, enter_over)
