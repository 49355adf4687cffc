-- The opening words, and then the entries.
use Rattle.description.proofs.TurnLaws.{gives_on}
use Rattle.block.proofs.BlockLaws.{block-entries, block-wrong}
use Rattle.block.proofs.read_block.Goals as goal

pub returns-in_err-values : goal.returns-in_err-values
returns-in_err-values c = rw (gives_on c.from_residual.result c.from_residual.ensures) (block-wrong c.in_err-values.ensures)

pub returns : goal.returns
returns c = block-entries c.in_ok-values.ensures c.entries.ensures
