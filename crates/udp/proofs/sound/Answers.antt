use Rattle.udp.specs.Setting.{sound}
use Rattle.udp.proofs.sound.Goals as goal

pub returns : goal.returns
unfolding sound
returns c = cc
