-- The plan is one of a sound setting.
use Rattle.flexray_writer.proofs.WritesLaws.{begun}
use Rattle.flexray_writer.proofs.write.Goals as goal

pub write_sound-requires : goal.write_sound-requires
write_sound-requires c = begun c.args.s c.plan_for.ensures c.in_ok-p.ensures.ok_part
