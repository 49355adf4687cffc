-- Each turn puts one byte more.
use native.Mathlib.Omega.{arith}
use Rattle.store.proofs.StoreLaws.{put_next, block_at}
use Rattle.store.proofs.copy_each.Goals as goal

pub loop-i-preserved : goal.loop-i-preserved
loop-i-preserved c =
    let a = c.args in
    put_next c.loop-i.invariant (omega arith) (rw (block_at a.part.now a.from a.n c.loop-i.i (omega arith)))
