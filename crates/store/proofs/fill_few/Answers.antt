-- The first four and the last four.
use native.Mathlib.Omega.{arith}
use Rattle.store.proofs.OverLaws.{fill_ends}
use Rattle.store.proofs.fill_few.Goals as goal

pub returns : goal.returns
returns c =
    let a = c.args in
    fill_ends a.out.now a.at a.n 4 a.free (omega arith) (omega arith) c.set.ensures (omega arith) c.set-2.ensures
