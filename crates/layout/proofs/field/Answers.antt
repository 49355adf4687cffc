use Rattle.layout.proofs.LeafLaws.{no_width, no_byte, one_byte, two_bytes}
use Rattle.layout.proofs.field.Goals as goal

pub returns-in-1 : goal.returns-in-1
returns-in-1 c =
    let (a, b) = c.wide.ensures in
    one_byte _ _ _ c.in-1.is a b

pub returns-in-2 : goal.returns-in-2
returns-in-2 c =
    let (a, b) = c.wide-in-2.ensures in
    let (d, e) = c.wide-in-2-2.ensures in
    two_bytes _ _ _ c.in-2.is a b d e

pub returns-in_default : goal.returns-in_default
returns-in_default c =
    let ((u, no-1), no-2) = c.in_default.in_default-own.rest in
    no_byte _ _ _ (no_width _ c.requires.width no-1 no-2)
