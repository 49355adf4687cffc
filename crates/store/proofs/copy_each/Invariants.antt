-- Each turn puts one byte more.
use Rattle.store.specs.Store.{block}
use Rattle.store.proofs.StoreLaws.{Put}
use Rattle.store.proofs.copy_each.Given as goal

abbrev pub invariant-loop-i : goal.invariant-loop-i
invariant-loop-i l = Put l.initial.out l.at (block l.part l.from l.n) l.n l.out l.i
