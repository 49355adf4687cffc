use Rattle.spelling.proofs.TextLaws.{adds_then}
use Rattle.spelling.proofs.Page.refusal.Goals as goal

pub returns : goal.returns
returns c = adds_then c.bytes.ensures (adds_then c.word.ensures c.word-2.ensures)
