-- Where the run ends, each place is told by its byte.
use Rattle.std.proofs.Common.{rules, tests}
use Rattle.finding.proofs.FindingLaws.{pass_run, passing_first}
use Rattle.finding.proofs.blanks_end.Goals as goal

pub returns : goal.returns
returns c = passing_first (pass_run c.along-k.ensures) (λ i h s. search (rules, tests)) c.first_place.ensures c.unwrap_or.ensures
