-- The name, and then what is behind the block.
use Rattle.description.proofs.TurnLaws.{gives_on}
use Rattle.block.proofs.BlockLaws.{last_on, last-wrong}
use Rattle.block.proofs.last_name.Goals as goal

pub returns-in_err-k : goal.returns-in_err-k
returns-in_err-k c = rw (gives_on c.from_residual.result c.from_residual.ensures) (last-wrong c.args.said c.in_err-k.ensures)

pub returns : goal.returns
returns c = last_on c.args.said c.in_ok-k.ensures c.behind.ensures
