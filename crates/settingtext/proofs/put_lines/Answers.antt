-- A name and its numbers, twice.
use Rattle.spelling.proofs.TextLaws.{adds_then}
use Rattle.settingtext.proofs.put_lines.Goals as goal

pub returns : goal.returns
returns c =
    adds_then c.bytes.ensures (adds_then c.put_numbers.ensures (adds_then c.bytes-2.ensures c.put_numbers-2.ensures))
