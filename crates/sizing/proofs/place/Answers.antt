-- At its place, or at the start of the next data packet.
use Rattle.sizing.proofs.PlaceLaws.{places}
use Rattle.sizing.proofs.place.Goals as goal

pub returns : goal.returns
returns c = search places
