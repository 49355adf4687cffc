-- Six numbers, each behind the one before.
use Rattle.spelling.proofs.TextLaws.{adds_then}
use Rattle.settingtext.proofs.put_numbers.Goals as goal

pub returns : goal.returns
returns c =
    adds_then c.word.ensures
    (adds_then c.word-2.ensures
    (adds_then c.word-3.ensures
    (adds_then c.word-4.ensures
    (adds_then c.word-5.ensures c.word-6.ensures))))
