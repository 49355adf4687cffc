use mathlib.Core.Path.{◌∙◌}
use Rattle.packet.specs.Counter.{valid}
use Rattle.rows.proofs.valid.Goals as goal

pub returns : goal.returns
unfolding valid
returns c = c.either.ensures ∙ rw c.holds.ensures
