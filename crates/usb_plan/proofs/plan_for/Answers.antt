use Rattle.usb_plan.proofs.PlanLaws.{len_of}
use Rattle.usb_plan.proofs.plan_for.Goals as goal

pub sound-requires : goal.sound-requires
sound-requires c = len_of c.shape-k.ensures
