-- The lines that are left, put from here on, come to the whole text.
use Prim.Native.Nat.{◌*◌}
use lib.ListN.{take}
use borrow.Author.Rules.{rules}
use Rattle.std.specs.Slice.Iter.{chunks_exact_rest, chunks_exact_size}
use mathlib.Core.Path.{◌≡◌, ◌∙◌, refl}
use Rattle.rowtext.proofs.RowsLaws.{listing, listing_next, listing_done}
use Rattle.rowtext.proofs.put_rows.Goals as goal

pub loop-row-init : goal.loop-row-init
loop-row-init c =
    let e : chunks_exact_rest c.into_iter-row-iterator.result ≡ take (5 * c.args.k) c.args.rows.now = search rules in
    let f : chunks_exact_size c.into_iter-row-iterator.result ≡ 5 = search rules in
    record {
      same = refl;
      size = f;
      listed = rw e (listing c.args.page.now.out.now c.args.page.now.at c.args.k c.args.rows.now c.requires.there);
    }

pub loop-row-preserved : goal.loop-row-preserved
loop-row-preserved c =
    let l = c.loop-row.invariant in
    let s = c.in-Some.ensures.steps in
    record {
      same = c.put_row.ensures.same ∙ l.same;
      size = s.0 ∙ l.size;
      listed = listing_next l.listed c.in-Some.row.now _ s.1.0 (s.1.1 ∙ l.size) c.put_row.ensures.puts;
    }

pub returns : goal.returns
returns c =
    let l = c.loop-row.invariant in
    let s = c.in-None.ensures.steps in
    record { same = l.same; puts = listing_done l.listed (rw l.size at s.1.0) }
