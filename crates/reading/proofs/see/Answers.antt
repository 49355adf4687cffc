-- LEN decides.
use Rattle.reading.proofs.StepLaws.{steps}
use Rattle.reading.proofs.see.Goals as goal

pub returns-then-len-eq0 : goal.returns-then-len-eq0
returns-then-len-eq0 c = search steps
