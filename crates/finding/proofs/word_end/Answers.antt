-- Where the run ends, each place is told by what starts there.
use Rattle.std.proofs.Common.{rules, tests}
use Rattle.finding.proofs.StartLaws.{endings, clear_word}
use Rattle.finding.proofs.SeekLaws.{seek_run, sought_first}
use Rattle.finding.proofs.word_end.Goals as goal

pub returns : goal.returns
returns c = sought_first (seek_run clear_word c.over-k.ensures) (λ i b h s. search (rules, tests, endings)) c.first_place.ensures c.unwrap_or.ensures
