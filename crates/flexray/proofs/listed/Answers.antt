-- Each path gives what the table derives, by the formula's laws.
use mathlib.Core.Path.{◌∙◌}
use Rattle.flexray.proofs.FormulaLaws.{none_are, alone_is, full_are, short_are}
use Rattle.flexray.proofs.listed.Goals as goal

pub returns-then-header-gt8 : goal.returns-then-header-gt8
returns-then-header-gt8 c = none_are _ c.if-header-gt8.true

pub returns-then-header-lt1 : goal.returns-then-header-lt1
returns-then-header-lt1 c = c.made.ensures ∙ alone_is _ c.if-header-gt8.false c.if-header-lt1.true

pub returns-then-header-eq0 : goal.returns-then-header-eq0
returns-then-header-eq0 c = c.paired.ensures ∙ full_are _ c.if-header-gt8.false c.if-header-lt1.false c.if-header-eq0.true

pub returns : goal.returns
returns c = c.paired-2.ensures ∙ short_are _ c.if-header-gt8.false c.if-header-lt1.false c.if-header-eq0.false
