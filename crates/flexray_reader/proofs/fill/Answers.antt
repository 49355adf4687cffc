-- The first row, then those behind it.
use Rattle.flexray_reader.proofs.FrameLaws.{frames}
use Rattle.flexray_reader.proofs.fill.Goals as goal

pub put-state-requires : goal.put-state-requires
put-state-requires c = search frames

pub fill_behind-requires : goal.fill_behind-requires
fill_behind-requires c = search frames

pub returns : goal.returns
returns c = search frames
