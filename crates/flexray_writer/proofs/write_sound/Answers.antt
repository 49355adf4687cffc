-- The counter, how many lengths there are, their sizes.
use Rattle.std.proofs.Common.{arith}
use Rattle.flexray_writer.proofs.WritesLaws.{counted, fitted, over, uncounted, unfit, unlike, refusing}
use Rattle.flexray_writer.proofs.write_sound.Goals as goal

pub returns-then-not-holds : goal.returns-then-not-holds
returns-then-not-holds c = over _ _ _ _ _ c.requires c.holds.ensures c.if-not-holds.true (refusing c.whole.ensures)

pub returns-then-miscounted : goal.returns-then-miscounted
returns-then-miscounted c =
    uncounted _ _ _ _ _ c.requires c.holds.ensures c.if-not-holds.false c.miscounted.ensures c.if-miscounted.true
    (refusing c.whole-then-miscounted.ensures)

pub returns-then-z-packets : goal.returns-then-z-packets
returns-then-z-packets c =
    let k = counted c.requires c.holds.ensures c.if-not-holds.false c.miscounted.ensures c.if-miscounted.false in
    unfit _ _ _ _ _ k c.further.ensures c.size-z.ensures (omega arith) (c.misfit.ensures _)

pub returns-then-z-packets-2 : goal.returns-then-z-packets-2
returns-then-z-packets-2 c =
    let k = counted c.requires c.holds.ensures c.if-not-holds.false c.miscounted.ensures c.if-miscounted.false in
    unlike _ _ _ _ _ k c.further.ensures c.size-z.ensures (omega arith) c.if-z-packets-2.true (refusing c.whole-then-z-packets-2.ensures)

pub write_fitted-requires : goal.write_fitted-requires
write_fitted-requires c =
    let k = counted c.requires c.holds.ensures c.if-not-holds.false c.miscounted.ensures c.if-miscounted.false in
    fitted k c.further.ensures c.size-z.ensures (omega arith) c.if-z-packets-2.false
