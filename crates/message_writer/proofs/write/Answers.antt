-- The counter, how many lengths there are, their sizes.
use Rattle.std.proofs.Common.{arith}
use Rattle.message_writer.proofs.WritesLaws.{over, many, unfit_so, unlike_so}
use Rattle.message_writer.proofs.write.Goals as goal

pub returns-then-not-holds : goal.returns-then-not-holds
returns-then-not-holds g c = over c.requires.messages _ _ c.holds.ensures _ _ _ _ c.if-not-holds.true c.whole.ensures

pub returns-then-packets-gt4096 : goal.returns-then-packets-gt4096
returns-then-packets-gt4096 g c =
    many c.requires.messages _ _ c.holds.ensures _ _ _ _ c.if-not-holds.false (omega arith) c.whole-then-packets-gt4096.ensures

pub returns-then-z-packets : goal.returns-then-z-packets
returns-then-z-packets g c =
    unfit_so c.requires.messages _ _ c.holds.ensures c.if-not-holds.false (omega arith) c.size-z.ensures _ _ _ _ _ (omega arith) c.misfit.ensures

pub returns-then-z-packets-2 : goal.returns-then-z-packets-2
returns-then-z-packets-2 g c =
    unlike_so c.requires.messages _ _ c.holds.ensures c.if-not-holds.false (omega arith) c.size-z.ensures _ _ _ _ _ (omega arith)
    c.if-z-packets-2.true c.whole-then-z-packets-2.ensures
