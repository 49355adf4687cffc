-- Each turn passes N bytes.
use Rattle.std.proofs.Common.{◌-◌, length, false}
use Rattle.runs.specs.Runs.{Passed}
use Rattle.runs.proofs.passed.Given as goal

abbrev pub invariant-loop-bytes : goal.invariant-loop-bytes
invariant-loop-bytes g l = Passed (λ b. goal.F-post g l.test b false) l.t l.q l.k

abbrev pub decreases-loop-bytes : goal.decreases-loop-bytes
decreases-loop-bytes g l = length l.t - l.k
