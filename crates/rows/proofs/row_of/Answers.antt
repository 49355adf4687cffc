use Rattle.std.proofs.Common.{◌∙◌}
use Rattle.rows.proofs.RowLaws.{row_is}
use Rattle.rows.proofs.row_of.Goals as goal

pub returns : goal.returns
returns c = row_is c.requires c.gap.ensures (c.from.ensures ∙ c.kind_of.ensures)
