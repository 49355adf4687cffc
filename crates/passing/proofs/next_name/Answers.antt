-- /begin and /end are no name.
use Rattle.passing.proofs.PassingLaws.{no_name}
use Rattle.passing.proofs.next_name.Goals as goal

pub returns-in-Begin : goal.returns-in-Begin
returns-in-Begin c = no_name c.in_ok-sign.ensures c.in-Begin.is
