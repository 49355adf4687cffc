use native.Mathlib.Omega.{arith}
use Rattle.store.proofs.StoreLaws.{put_through}
use Rattle.store.proofs.copy.Goals as goal

pub returns : goal.returns
returns c =
    let a = c.args in
    put_through a.part.now _ a.out.now a.at a.from a.n (omega arith) (omega arith) c.copy_each.ensures c.copy_each-2.ensures
