-- The bytes, and the counter.
use Rattle.writing.proofs.AllLaws.{Writing}
use Rattle.writing.proofs.put_loop.Given as goal

abbrev pub invariant-loop-length : goal.invariant-loop-length
invariant-loop-length g l = Writing l.p l.b l.packets.bytes.now l.packets.lengths.now l.initial.out l.out l.a l.c l.from l.length-index
