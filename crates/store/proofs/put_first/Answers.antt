-- A block of 64 is the packet and what goes with it.
use mathlib.Core.Path.{◌≡◌, sym, ◌∙◌}
use mathlib.Core.Bool.{true, ◌&&◌}
use lib.ListN.{length}
use lib.Dec.{leb}
use borrow.Author.Tests.{leb-true}
use Rattle.layout.proofs.TestLaws.{and_left, and_right}
use Rattle.store.proofs.StoreLaws.{block_split}
use Rattle.store.proofs.put_first.Goals as goal

pub returns-then-both : goal.returns-then-both
returns-then-both c =
    let a = c.args in
    let m = length a.part.now in
    let e : a.more && (leb a.n 64 && leb 64 m) ≡ true = sym (c.both-2.ensures ∙ rw c.both.ensures) ∙ c.if-both.true in
    let l = leb-true a.n 64 (and_left (leb a.n 64) (leb 64 m) (and_right a.more (leb a.n 64 && leb 64 m) e)) in
    rw e (rw (block_split a.part.now a.n l) at c.copy.ensures)
