-- By the eights that were passed, and the four behind them.
use Rattle.std.proofs.Common.{rules, tests, ◌≡◌, false}
use Rattle.std.proofs.lemmas.Slice.{between_to_end}
use Rattle.runs.specs.Runs.{under, Passed}
use Rattle.runs.proofs.RunLaws.{run_passed, pass_on, passed_as}
use Rattle.runs.proofs.over.Goals as goal

pub returns-in-Some : goal.returns-in-Some
returns-in-Some c =
    let low : Passed (λ b. under c.args.n b ≡ false) _ _ _ = passed_as (λ b h. search (rules, tests)) c.passed-k.ensures in
    run_passed (λ b h. h)
    (pass_on low c.in-Some.ensures.cases (search (rules, between_to_end)) low.to
    (λ i l. let h = c.some.ensures.none c.if-not-some.true i l in search (rules, tests)))

pub returns-in_default : goal.returns-in_default
returns-in_default c = run_passed (λ b h. search (rules, tests)) c.passed-k.ensures

pub returns-in_default-2 : goal.returns-in_default-2
returns-in_default-2 c = run_passed (λ b h. search (rules, tests)) c.passed-k.ensures
