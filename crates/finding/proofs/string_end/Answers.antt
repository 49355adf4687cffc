-- Where the run ends, each place is told by its byte.
use Rattle.std.proofs.Common.{rules, tests}
use Rattle.finding.proofs.StartLaws.{endings, clear_string}
use Rattle.finding.proofs.SeekLaws.{seek_run, closed_first}
use Rattle.finding.proofs.string_end.Goals as goal

pub returns : goal.returns
returns c = closed_first (seek_run clear_string c.without-k.ensures) (λ i b h s. search (rules, tests, endings)) c.first_place.ensures c.ok_or.ensures.value
