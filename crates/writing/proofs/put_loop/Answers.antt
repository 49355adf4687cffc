-- The bytes, and the counter.
use Rattle.std.proofs.Common.{arith}
use Rattle.packet.proofs.TakeLaws.{left_is}
use Rattle.writing.proofs.AllLaws.{writing, writing_done, placing, passing, writing_next}
use Rattle.writing.proofs.put_loop.Goals as goal

pub loop-length-init : goal.loop-length-init
loop-length-init g c = writing c.cased-p.ensures c.requires.writable

pub place-s-requires : goal.place-s-requires
place-s-requires g c = placing c.loop-length.invariant c.loop-length-test.true c.wide32-n.ensures.0

pub put_one-requires : goal.put_one-requires
put_one-requires g c =
    passing c.loop-length.invariant c.loop-length-test.true c.wide32-n.ensures.0 c.place-s.ensures
    (left_is c.args.packets.bytes.now c.loop-length.from)

pub loop-length-preserved : goal.loop-length-preserved
loop-length-preserved g c =
    writing_next c.loop-length.invariant c.loop-length-test.true c.wide32-n.ensures.0 c.place-s.ensures
    (left_is c.args.packets.bytes.now c.loop-length.from) c.put_one.ensures c.after-c.ensures

pub returns : goal.returns
returns g c = writing_done c.cased-p.ensures c.loop-length.invariant (omega arith)
