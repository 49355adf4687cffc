-- The room.
use Rattle.message_writer.proofs.WritesLaws.{crowded, written}
use Rattle.message_writer.proofs.write_fitted.Goals as goal

pub returns-then-crowded : goal.returns-then-crowded
returns-then-crowded g c = crowded _ _ _ _ _ _ c.requires.fitted c.ended-end.ensures c.most.ensures c.crowded.ensures c.if-crowded.true c.whole.ensures

pub returns : goal.returns
returns g c = written _ _ _ _ _ _ c.requires.fitted c.ended-end.ensures c.most.ensures c.crowded.ensures c.if-crowded.false c.compose-next.ensures
