-- What was read is told, with the table as `read` left it.
use Rattle.rowtext.proofs.ReportLaws.{reports}
use Rattle.rowtext.proofs.tell.Goals as goal

pub put_answer-requires : goal.put_answer-requires
put_answer-requires c = search reports
