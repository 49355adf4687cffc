-- Each turn counts a digit.
use Rattle.keywords.specs.Counting.{Counting}
use Rattle.keywords.proofs.based.Given as goal

abbrev pub invariant-loop-b : goal.invariant-loop-b
invariant-loop-b l = Counting l.base l.most l.digits l.n l.b-index
