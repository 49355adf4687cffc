-- Each turn reads a word.
use Rattle.expecting.specs.Expecting.{Midway}
use Rattle.expecting.proofs.read_series.Given as goal

abbrev pub invariant-loop-i : goal.invariant-loop-i
invariant-loop-i N l = Midway l.kinds l.t l.q l.values l.i l.k
