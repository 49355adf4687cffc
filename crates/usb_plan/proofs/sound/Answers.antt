use Rattle.usb.specs.Setting.{sound}
use Rattle.usb_plan.proofs.sound.Goals as goal

pub returns : goal.returns
unfolding sound
returns c = cc
