use Rattle.spelling.proofs.TextLaws.{spellings}
use Rattle.spelling.proofs.spell.Goals as goal

pub returns : goal.returns
returns c = search spellings
