-- By what the word is, if there is one.
use Rattle.passing.proofs.PassingLaws.{begin-held, inside-begin, end-held, inside-end, inside-other}
use Rattle.passing.proofs.go_on.Goals as goal

pub open-requires : goal.open-requires
open-requires c =
    let says = rw (c.in-Begin.is, c.bytes.ensures) at c.sign_of.ensures in
    (c.requires.0, begin-held c.requires.0 c.requires.1 c.in_ok-word.ensures says)

pub close-requires : goal.close-requires
close-requires c =
    let says = rw (c.in-End.is, c.bytes.ensures) at c.sign_of.ensures in
    (c.requires.0, end-held c.requires.0 c.requires.1 c.in_ok-word.ensures says)

pub returns-in-Begin : goal.returns-in-Begin
returns-in-Begin c =
    let says = rw (c.in-Begin.is, c.bytes.ensures) at c.sign_of.ensures in
    inside-begin c.requires.0 c.requires.1 c.in_ok-word.ensures says c.open.result c.open.ensures

pub returns-in-End : goal.returns-in-End
returns-in-End c =
    let says = rw (c.in-End.is, c.bytes.ensures) at c.sign_of.ensures in
    inside-end c.requires.0 c.requires.1 c.in_ok-word.ensures says c.close.result c.close.ensures

pub returns-in-Other : goal.returns-in-Other
returns-in-Other c =
    let says = rw (c.in-Other.is, c.bytes.ensures) at c.sign_of.ensures in
    inside-other c.requires.0 c.requires.1 c.in_ok-word.ensures says
