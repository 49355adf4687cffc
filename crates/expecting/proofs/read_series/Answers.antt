-- Each turn reads a word.
use Prim.Native.Nat.{ℕ}
use native.Mathlib.Omega.{arith}
use Rattle.std.proofs.lemmas.List.{length-replicate}
use Rattle.description.proofs.TurnLaws.{gives_on}
use Rattle.expecting.proofs.ExpectingLaws.{series_first, series_on, series_wrong, series_end}
use Rattle.expecting.proofs.read_series.Goals as goal

pub loop-i-init : goal.loop-i-init
loop-i-init g c = series_first c.requires (omega (arith, length-replicate {A = ℕ}))

pub returns-in_err-said : goal.returns-in_err-said
returns-in_err-said g c =
    rw (gives_on c.from_residual.result c.from_residual.ensures)
    (series_wrong c.loop-i.invariant (omega (arith, c.loop-i.invariant.all, c.loop-i-test.true)) _ c.in_err-said.ensures)

pub loop-i-preserved : goal.loop-i-preserved
loop-i-preserved g c = series_on c.loop-i.invariant (omega (arith, c.loop-i.invariant.all, c.loop-i-test.true)) _ c.in_ok-said.ensures

pub returns : goal.returns
returns g c = series_end c.loop-i.invariant (omega arith)
