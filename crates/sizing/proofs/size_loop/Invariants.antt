-- The lengths before the index are taken.
use Rattle.sizing.proofs.SizeLaws.{Sizing}
use Rattle.sizing.proofs.size_loop.Given as goal

abbrev pub invariant-loop-length : goal.invariant-loop-length
invariant-loop-length g l = Sizing l.p l.q l.lengths l.z l.length-index
