-- At each place that was passed the test said no.
use Rattle.finding.specs.Finding.{Clear}
use Rattle.finding.proofs.first_place.Given as goal

abbrev pub invariant-loop-i : goal.invariant-loop-i
invariant-loop-i g l = Clear (goal.F-post g l.test) l.k l.i
