use Rattle.flexray.specs.Setting.{sound}
use Rattle.flexray_plan.proofs.PlanLaws.{goes-is}
use Rattle.flexray_plan.proofs.sound.Goals as goal

pub returns : goal.returns
unfolding sound
returns c = let g = goes-is c.requires in cc
