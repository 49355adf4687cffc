use Rattle.sizing.proofs.SizeLaws.{turning, size_next}
use Rattle.sizing.proofs.size_loop.Goals as goal

pub loop-length-preserved : goal.loop-length-preserved
loop-length-preserved g c =
    let u = turning c.cased-p.ensures c.loop-length.invariant c.loop-length-test.true c.wide32-n.ensures.0 c.limit-limit.ensures
    c.either.ensures c.if-either.false in
    size_next u c.place-s.ensures c.both.ensures c.if-both.false
