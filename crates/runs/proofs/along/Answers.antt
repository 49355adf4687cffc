-- By the bytes that were passed.
use Rattle.std.proofs.Common.{rules, tests}
use Rattle.runs.proofs.RunLaws.{run_passed}
use Rattle.runs.proofs.along.Goals as goal

pub returns : goal.returns
returns c = run_passed (λ b h. search (rules, tests)) c.passed.ensures
