-- Each path gives what the table derives, by the formula's laws.
use mathlib.Core.Path.{◌∙◌}
use Rattle.usb.proofs.FormulaLaws.{bytes_are, words_are, none_are}
use Rattle.usb.proofs.shape.Goals as goal

pub returns-then-header-lt3 : goal.returns-then-header-lt3
returns-then-header-lt3 c = c.spread.ensures ∙ bytes_are _ c.if-header-lt3.true

pub returns-then-header-lt6 : goal.returns-then-header-lt6
returns-then-header-lt6 c = c.spread-then-header-lt6.ensures ∙ words_are _ c.if-header-lt3.false c.if-header-lt6.true

pub returns : goal.returns
returns c = none_are _ c.if-header-lt6.false
