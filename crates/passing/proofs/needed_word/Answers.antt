-- Where the text ends, it stops.
use borrow.Author.Rules.{rules}
use Rattle.description.proofs.TurnLaws.{gives_on}
use Rattle.passing.proofs.PassingLaws.{needed, needed-cut}
use Rattle.passing.proofs.needed_word.Goals as goal

pub returns-in_err-next_word : goal.returns-in_err-next_word
returns-in_err-next_word c = rw (gives_on c.from_residual.result c.from_residual.ensures) (needed-cut c.in_err-next_word.ensures)

pub returns : goal.returns
returns c = search (rules, needed)
