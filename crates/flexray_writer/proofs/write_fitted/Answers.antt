-- The room decides.
use Rattle.flexray_writer.proofs.WritesLaws.{roomy, crowded, written, refusing}
use Rattle.flexray_writer.proofs.write_fitted.Goals as goal

pub returns-then-crowded : goal.returns-then-crowded
returns-then-crowded c = crowded _ _ _ _ _ c.requires c.crowded.ensures c.if-crowded.true (refusing c.whole.ensures)

pub compose-requires : goal.compose-requires
compose-requires c = roomy c.requires c.crowded.ensures c.if-crowded.false

pub returns : goal.returns
returns c = written _ _ _ _ _ c.requires c.crowded.ensures c.if-crowded.false c.compose.ensures c.after-next.ensures
