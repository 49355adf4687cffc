-- The plan is one of messages in data packets.
use Rattle.std.proofs.Common.{arith}
use Rattle.usb_writer.proofs.WritesLaws.{planned, packed}
use Rattle.usb_writer.proofs.write.Goals as goal

pub write-requires-clause-messages : goal.write-requires-clause-messages
write-requires-clause-messages c = planned c.args.s c.plan_for.ensures c.in_ok-p.ensures.ok_part

pub write-requires-in-1-clause-messages : goal.write-requires-in-1-clause-messages
write-requires-in-1-clause-messages c = planned c.args.s c.plan_for.ensures c.in_ok-p.ensures.ok_part

pub write-requires-in_default-clause-layout_value : goal.write-requires-in_default-clause-layout_value
write-requires-in_default-clause-layout_value c = omega (arith, packed c.args.s c.plan_for.ensures c.in_ok-p.ensures.ok_part)

pub write-requires-in_default-clause-messages : goal.write-requires-in_default-clause-messages
write-requires-in_default-clause-messages c = planned c.args.s c.plan_for.ensures c.in_ok-p.ensures.ok_part
