-- Each turn passes N bytes.
use Rattle.std.proofs.Common.{rules, arith}
use Rattle.std.proofs.lemmas.Slice.{between_to_end}
use Rattle.runs.proofs.RunLaws.{pass_on}
use Rattle.runs.proofs.passed.Goals as goal

pub first_chunk-requires : goal.first_chunk-requires
first_chunk-requires g c = omega (arith, c.requires.size.1)

pub loop-bytes-preserved : goal.loop-bytes-preserved
loop-bytes-preserved g c =
    pass_on c.loop-bytes.invariant c.in-Some.ensures.cases (search (rules, between_to_end)) c.loop-bytes.invariant.to
    (λ i l. let h = c.some.ensures.none c.if-some.false i l in search rules)
