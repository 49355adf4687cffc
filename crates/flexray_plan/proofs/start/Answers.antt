use borrow.Author.Rules.{rules}
use Rattle.flexray.specs.Setting.{start}
use Rattle.flexray_plan.proofs.start.Goals as goal

pub returns : goal.returns
unfolding start
returns c = search rules
