-- Each turn reads over a word, and the name behind it where it has one.
use native.Mathlib.Omega.{arith}
use Rattle.description.proofs.TurnLaws.{gives_on}
use Rattle.passing.proofs.PassingLaws.{way-first, way_on, way_less, way-wrong, way_end}
use Rattle.passing.proofs.pass_over.Goals as goal

pub loop-names-init : goal.loop-names-init
loop-names-init c = rw c.hold.ensures (way-first _ (omega arith) c.requires)

pub loop-names-preserved : goal.loop-names-preserved
loop-names-preserved c = way_on c.loop-names.invariant c.in_ok-k.ensures

pub loop-names-smaller : goal.loop-names-smaller
loop-names-smaller c = way_less c.loop-names.invariant c.in_ok-k.ensures

pub returns-in_err-k : goal.returns-in_err-k
returns-in_err-k c = rw (gives_on c.from_residual.result c.from_residual.ensures) (way-wrong c.loop-names.invariant c.in_err-k.ensures)

pub returns : goal.returns
returns c = way_end c.loop-names.invariant (omega arith)
