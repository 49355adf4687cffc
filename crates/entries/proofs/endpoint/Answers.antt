-- The parameters, and then what is read over.
use Rattle.description.proofs.TurnLaws.{gives_on}
use Rattle.entries.proofs.EntryLaws.{parse_wrong, parse_over, parse_over-wrong}
use Rattle.entries.proofs.endpoint.Goals as goal

pub returns-in_err-values : goal.returns-in_err-values
returns-in_err-values c = rw (gives_on c.from_residual.result c.from_residual.ensures) (parse_wrong _ c.in_err-values.ensures)

pub returns-in_err-behind : goal.returns-in_err-behind
returns-in_err-behind c =
    rw (gives_on c.from_residual-in_err-behind.result c.from_residual-in_err-behind.ensures)
    (parse_over-wrong _ c.in_ok-values.ensures c.in_err-behind.ensures)

pub returns : goal.returns
returns c = parse_over _ c.in_ok-values.ensures c.in_ok-behind.ensures
