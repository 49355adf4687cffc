-- The first packet decides, then those behind it.
use Rattle.flexray_reader.proofs.FrameLaws.{frames}
use Rattle.flexray_reader.proofs.judge_packets.Goals as goal

pub returns-then-m-eq0 : goal.returns-then-m-eq0
returns-then-m-eq0 c = rw c.whole.ensures (search frames)

pub returns-then-end-q : goal.returns-then-end-q
returns-then-end-q c = rw c.whole-then-end-q.ensures (search frames)

pub returns : goal.returns
returns c = search frames
