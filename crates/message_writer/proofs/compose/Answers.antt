-- The messages, and a rest behind them.
use Rattle.message_writer.proofs.WritesLaws.{compositions}
use Rattle.message_writer.proofs.compose.Goals as goal

pub returns : goal.returns
returns g c = search compositions
