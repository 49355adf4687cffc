-- Each part of what is seen is as it was computed.
use Rattle.reading.proofs.StepLaws.{steps}
use Rattle.reading.proofs.take.Goals as goal

pub returns : goal.returns
returns c = search steps
