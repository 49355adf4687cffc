-- LEN tells a rest from a message.
use Rattle.reading.proofs.FindLaws.{findings}
use Rattle.reading.proofs.find.Goals as goal

pub returns : goal.returns
returns c = search findings
