-- All bytes are put: the part is free.
use native.Mathlib.Omega.{arith}
use mathlib.Core.Path.{sym, ◌∙◌}
use lib.ListN.{replicate, length-replicate, get_or-replicate}
use lib.Seq.{ext_get_or}
use Rattle.store.proofs.StoreLaws.{part_put}
use Rattle.store.proofs.set.Goals as goal

pub returns : goal.returns
returns c =
    let a = c.args in
    let l = length-replicate a.n a.free in
    let (m, same) = c.loop-byte.invariant in
    let e = ext_get_or 0 c.loop-byte.byte-items (replicate a.n a.free) (m ∙ sym l)
    (λ k h. same k (omega arith) ∙ sym (get_or-replicate a.n k a.free 0 (omega arith))) in
    part_put a.out.now _ a.at a.n (omega arith) l e
