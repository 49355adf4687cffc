-- Where the run ends, each place is told by its byte.
use Rattle.std.proofs.Common.{rules, tests}
use Rattle.finding.proofs.StartLaws.{endings, clear_line}
use Rattle.finding.proofs.SeekLaws.{seek_run, sought_first}
use Rattle.finding.proofs.line_end.Goals as goal

pub returns : goal.returns
returns c = sought_first (seek_run clear_line c.over-k.ensures) (λ i b h s. search (rules, tests, endings)) c.first_place.ensures c.unwrap_or.ensures
