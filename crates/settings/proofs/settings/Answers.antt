-- Too long a text is not read.
use Rattle.settings.proofs.SettingsLaws.{settings_long, settings_right, settings_wrong, settings_place}
use Rattle.settings.proofs.settings.Goals as goal

pub returns-then-t-gt-MOST_TEXT : goal.returns-then-t-gt-MOST_TEXT
returns-then-t-gt-MOST_TEXT c = rw c.whole.ensures (settings_long _ _ c.if-t-gt-MOST_TEXT.true)

pub at-requires : goal.at-requires
at-requires c = settings_place _ c.if-t-gt-MOST_TEXT.false c.in-Err.ensures

pub returns-in-Ok : goal.returns-in-Ok
returns-in-Ok c = settings_right _ _ c.if-t-gt-MOST_TEXT.false c.in-Ok.ensures c.judged.ensures

pub returns-in-Err : goal.returns-in-Err
returns-in-Err c = rw c.at.ensures (settings_wrong _ _ c.if-t-gt-MOST_TEXT.false c.in-Err.ensures)
