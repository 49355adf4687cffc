-- The setting is sound.
use Rattle.udp_writer.proofs.WritesLaws.{planned}
use Rattle.udp_writer.proofs.write.Goals as goal

pub write-requires-clause-messages : goal.write-requires-clause-messages
write-requires-clause-messages c = planned c.args.s c.plan_of.ensures c.sound.ensures c.if-not-sound.false
