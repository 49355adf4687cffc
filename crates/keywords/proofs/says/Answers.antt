-- By the lines of the kind's enumeration.
use Rattle.keywords.specs.Tables.{packing, alignment}
use Rattle.keywords.proofs.says.Goals as goal

pub returns-in-Packing : goal.returns-in-Packing
unfolding packing
returns-in-Packing c = rw c.in-Packing.is c.listed-in-Packing.ensures

pub returns-in-Alignment : goal.returns-in-Alignment
unfolding alignment
returns-in-Alignment c = rw c.in-Alignment.is c.listed-in-Alignment.ensures
