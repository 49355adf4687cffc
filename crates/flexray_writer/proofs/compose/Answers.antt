use Rattle.flexray_writer.proofs.WritesLaws.{writes}
use Rattle.flexray_writer.proofs.compose.Goals as goal

pub returns : goal.returns
returns c = search writes
