use Rattle.flexray.specs.Writing.{miscounted}
use Rattle.flexray_writer.proofs.miscounted.Goals as goal

pub returns : goal.returns
unfolding miscounted
returns c = cc
