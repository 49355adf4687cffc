-- Where the run ends, each place is told by its byte and the one behind it.
use Rattle.std.proofs.Common.{rules, tests, ◌+◌}
use Rattle.finding.specs.Finding.{ends_comment, Seeking}
use Rattle.finding.proofs.StartLaws.{endings}
use Rattle.finding.proofs.SeekLaws.{seek_run, closed_first}
use Rattle.finding.proofs.comment_end.Goals as goal

pub returns : goal.returns
returns c =
    let s : Seeking ends_comment c.args.t.now (c.args.q + 2) c.without-k.result = search (rules, seek_run, endings) in
    closed_first s (λ i b h s. search (rules, tests, endings)) c.first_place.ensures c.ok_or.ensures.value
