-- The setting decides.
use Rattle.udp_reader.proofs.ReadsLaws.{planned, sound_so, unsound}
use Rattle.udp_reader.proofs.read.Goals as goal

pub returns-then-not-sound : goal.returns-then-not-sound
returns-then-not-sound c = rw c.whole.ensures (unsound _ _ _ _ c.if-not-sound.ensures)

pub read_planned-requires : goal.read_planned-requires
read_planned-requires c = planned _ c.if-not-sound.ensures c.plan_of.ensures

pub returns : goal.returns
returns c = sound_so _ _ _ _ c.if-not-sound.ensures c.plan_of.ensures c.read_planned.ensures
