-- Each turn passes a gap.
use Rattle.std.proofs.lemmas.Result.{err_from_is_err_and}
use Rattle.words.specs.declared.Start.TheVariants as S
use Rattle.finding.proofs.FindingLaws.{passes, pass-room}
use Rattle.finding.proofs.next_word.Goals as goal

pub returns-in-Nothing : goal.returns-in-Nothing
returns-in-Nothing c = search passes

pub loop-k-preserved-in-Blank : goal.loop-k-preserved-in-Blank
loop-k-preserved-in-Blank c = search passes

pub comment_end-requires : goal.comment_end-requires
comment_end-requires c = search (passes, pass-room S.Comment)

pub returns-in_err-k-in-Comment : goal.returns-in_err-k-in-Comment
returns-in_err-k-in-Comment c =
    let p = err_from_is_err_and c.from_residual.result c.from_residual.ensures.1 in
    rw (p.1, p.2) (search (passes, c.in_err-k-in-Comment.ensures))

pub loop-k-preserved-in-Comment : goal.loop-k-preserved-in-Comment
loop-k-preserved-in-Comment c = search (passes, c.in_ok-k-in-Comment.ensures)

pub line_end-k-requires : goal.line_end-k-requires
line_end-k-requires c = search (passes, pass-room S.Line)

pub loop-k-preserved : goal.loop-k-preserved
loop-k-preserved c = search passes

pub returns-in_err-to-in-Quote : goal.returns-in_err-to-in-Quote
returns-in_err-to-in-Quote c =
    let p = err_from_is_err_and c.from_residual-in_err-to-in-Quote.result c.from_residual-in_err-to-in-Quote.ensures.1 in
    rw (p.1, p.2) (search (passes, c.in_err-to-in-Quote.ensures))

pub returns-in-Quote : goal.returns-in-Quote
returns-in-Quote c = search (passes, c.in_ok-to-in-Quote.ensures)

pub returns-in-Other : goal.returns-in-Other
returns-in-Other c = search passes
