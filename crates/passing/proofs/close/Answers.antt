-- The word is the innermost name, or it is wrong.
use borrow.Author.Rules.{rules}
use Rattle.passing.proofs.NamesLaws.{top}
use Rattle.passing.proofs.PassingLaws.{close-on, close_other}
use Rattle.passing.proofs.close.Goals as goal

pub innermost-requires : goal.innermost-requires
innermost-requires c = (c.requires.0, (top _ _ _ c.requires.0 c.requires.1.lie).0)

pub returns-else-same : goal.returns-else-same
returns-else-same c =
    let same = rw (c.bytes.ensures, c.innermost.ensures) at c.same.ensures in
    search (rules, close_other)

pub returns-then-same : goal.returns-then-same
returns-then-same c =
    let same = rw (c.bytes.ensures, c.innermost.ensures) at c.same.ensures in
    search (rules, close-on)
