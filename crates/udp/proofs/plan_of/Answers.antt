use Rattle.udp.specs.Setting.{fields}
use Rattle.udp.proofs.plan_of.Goals as goal

pub returns : goal.returns
unfolding fields
returns c = rw c.joined.ensures
