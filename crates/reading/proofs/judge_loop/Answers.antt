-- What a turn keeps.
use Rattle.reading.proofs.LoopLaws.{message-judged, rest-judged}
use Rattle.reading.proofs.judge_loop.Goals as goal

pub loop-next-preserved-in-Ok-Message : goal.loop-next-preserved-in-Ok-Message
loop-next-preserved-in-Ok-Message g c = message-judged c.loop-next.invariant (rw (c.in-Ok-Message.is, c.in-Ok-Message.field-0-is) at c.see.ensures)

pub loop-next-preserved : goal.loop-next-preserved
loop-next-preserved g c = rest-judged c.loop-next.invariant (rw (c.in-Ok-Rest.is, c.in-Ok-Rest.field-0-is) at c.see.ensures)
