-- The lines that are left, put from here on, come to the whole text.
use mathlib.Core.Path.{◌≡◌}
use Rattle.std.specs.Slice.Iter.{chunks_exact_rest, chunks_exact_size}
use Rattle.rowtext.proofs.RowsLaws.{Listing}
use Rattle.rowtext.proofs.put_rows.Given as goal

abbrev pub invariant-loop-row : goal.invariant-loop-row
invariant-loop-row l = record {
  same : l.page.out.ghost_name ≡ l.initial.page.out.ghost_name;
  size : chunks_exact_size l.row-iterator ≡ 5;
  listed : Listing l.initial.page.out.now l.initial.page.at l.k l.rows l.page.out.now l.page.at (chunks_exact_rest l.row-iterator);
}
