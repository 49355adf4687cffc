-- The count of rows, or the first refusal.
use Rattle.reading.specs.Reads.{turns}
use Rattle.reading.proofs.LoopLaws.{Judging}
use Rattle.reading.proofs.judge_loop.Given as goal

abbrev pub invariant-loop-next : goal.invariant-loop-next
invariant-loop-next g l = Judging l.p l.t l.before l.initial.a l.a l.rows

abbrev pub decreases-loop-next : goal.decreases-loop-next
decreases-loop-next g l = turns l.t l.a
