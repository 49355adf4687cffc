-- Too long an input is refused; any other is told.
use Rattle.rowtext.proofs.ReportLaws.{reports, report_long}
use Rattle.rowtext.proofs.report.Goals as goal

pub returns-then-t-gt8192 : goal.returns-then-t-gt8192
returns-then-t-gt8192 c = report_long _ c.requires c.if-t-gt8192.true (rw c.whole.ensures at c.put_answer.ensures)

pub returns : goal.returns
returns c = search reports
