-- An endpoint that is there already is refused at its name.
use mathlib.Core.Path.{sym, ◌∙◌}
use Rattle.description.proofs.TurnLaws.{gives_on}
use Rattle.entries.proofs.EntryLaws.{enter_second, enter_first, enter_wrong}
use Rattle.entries.proofs.enter_endpoint.Goals as goal

pub returns-then-is_some : goal.returns-then-is_some
returns-then-is_some c = enter_second c.args.side c.requires.1 c.found.result c.found.ensures (sym c.is_some.ensures ∙ c.if-is_some.true)

pub returns-in_err-e : goal.returns-in_err-e
returns-in_err-e c =
    rw (gives_on c.from_residual.result c.from_residual.ensures)
    (enter_wrong c.args.side c.requires.1 c.found.result c.found.ensures (sym c.is_some.ensures ∙ c.if-is_some.false) c.in_err-e.ensures)

pub returns : goal.returns
returns c = enter_first c.args.side c.requires.1 c.found.result c.found.ensures (sym c.is_some.ensures ∙ c.if-is_some.false) c.in_ok-e.ensures c.with.ensures
