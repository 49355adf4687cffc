-- The last bytes may lie over the first.
use native.Mathlib.Omega.{arith}
use mathlib.Core.Path.{refl}
use Rattle.store.proofs.OverLaws.{part_ends}
use Rattle.store.proofs.copy_ends.Goals as goal

pub returns : goal.returns
returns c =
    let a = c.args in
    part_ends a.packet.now a.out.now a.at a.m a.m (omega arith) (omega arith) c.copy.ensures (omega arith) refl
    c.copy-2.ensures
