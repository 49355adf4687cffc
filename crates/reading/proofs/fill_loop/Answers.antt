-- The rows and the state.
use mathlib.Core.Path.{◌∙◌}
use Rattle.reading.proofs.LoopLaws.{putting, message-given, rest-given, all-given}
use Rattle.reading.proofs.fill_loop.Goals as goal

pub put-c-requires : goal.put-c-requires
put-c-requires g c = putting c.loop-j.invariant c.in-Message.ensures

pub loop-j-preserved-in-Message : goal.loop-j-preserved-in-Message
loop-j-preserved-in-Message g c = message-given c.loop-j.invariant c.in-Message.ensures c.put-c.ensures

pub loop-j-preserved : goal.loop-j-preserved
loop-j-preserved g c = rest-given c.loop-j.invariant c.in-Rest.ensures

pub returns : goal.returns
returns g c = all-given c.loop-j.invariant c.loop-j-test.false ∙ rw c.cased-p.ensures
