-- Rows that are put one behind another.
use Prim.Native.Nat.{ℕ, zero, suc, ◌+◌, ◌*◌, ◌/◌, ◌%◌, ◌<◌, ◌≤◌}
use native.Mathlib.Omega.{arith}
use mathlib.Core.Path.{◌≡◌, refl, sym, ◌∙◌}
use mathlib.Core.List.{List, ◌++◌}
use lib.ListN.{length, take, drop, length-append, length-drop, length-take, get_or-append}
use lib.Seq.{sets, drop-append-le}
use Rattle.std.proofs.Math.Seq.{drop-append_seam}
use Rattle.std.proofs.lemmas.List.{take-append-drop}
use Rattle.layout.proofs.RunLaws.{sets-append}
use Rattle.spelling.specs.Put.{Puts}
use Rattle.rowtext.specs.Text.{line_of, lines}

---- The rows ------------------------------------------------------------------------------------------------------------------

-- the first k rows, whatever stands behind them
pub lines_front : (k : ℕ) (xs ys : List ℕ) → 5 * k ≤ length xs → lines k (xs ++ ys) ≡ lines k xs
unfolding lines
lines_front zero xs ys h = refl
lines_front (suc k) xs ys h =
    let l : 5 * k ≤ length (drop 5 xs) = simp length-drop (omega arith) in
    rw (
      get_or-append xs ys 0 0 (omega arith),
      get_or-append xs ys 0 1 (omega arith),
      get_or-append xs ys 0 2 (omega arith),
      get_or-append xs ys 0 3 (omega arith),
      get_or-append xs ys 0 4 (omega arith),
      drop-append-le 5 xs ys (omega arith),
      lines_front k (drop 5 xs) ys l,
    )

-- .. so no more are needed
lines_of_first : (k : ℕ) (rows : List ℕ) → 5 * k ≤ length rows → lines k (take (5 * k) rows) ≡ lines k rows
lines_of_first k rows h =
    let n : 5 * k ≤ length (take (5 * k) rows) = simp length-take (omega arith) in
    sym (lines_front k (take (5 * k) rows) (drop (5 * k) rows) n) ∙ rw (take-append-drop (5 * k) rows)

drop_row : (row left : List ℕ) → length row ≡ 5 → drop 5 (row ++ left) ≡ left
drop_row row left n = rw (← n) (drop-append_seam row left)

-- of k rows, to be put from a place on, those before the rest were put, and the rest comes to stand at a place
pub record Listing (old : List ℕ) (from k : ℕ) (rows out : List ℕ) (at : ℕ) (rest : List ℕ) : Type 0 where
  pub whole : length rest % 5 ≡ 0
  pub room : at + 11 * length rest ≤ from + 55 * k
  pub same : sets old from (lines k rows) ≡ sets out at (lines (length rest / 5) rest)
  pub count : from + length (lines k rows) ≡ at + length (lines (length rest / 5) rest)
  pub long : length out ≡ length old

pub listing : (old : List ℕ) (from k : ℕ) (rows : List ℕ) → 5 * k ≤ length rows → Listing old from k rows old from (take (5 * k) rows)
listing old from k rows h =
    let n : length (take (5 * k) rows) ≡ 5 * k = simp length-take (omega arith) in
    let d : length (take (5 * k) rows) / 5 ≡ k = omega (arith, n) in
    let e : lines (length (take (5 * k) rows) / 5) (take (5 * k) rows) ≡ lines k rows = rw d (lines_of_first k rows h) in
    record { whole = omega (arith, n); room = omega (arith, n); same = rw e; count = rw e; long = refl }

module _ {old : List ℕ} {from k : ℕ} {rows out : List ℕ} {at : ℕ} {rest : List ℕ} (l : Listing old from k rows out at rest) where
  -- the rest starts with a row
  next-line : (row left : List ℕ) → rest ≡ row ++ left → length row ≡ 5
      → lines (length rest / 5) rest ≡ line_of row ++ lines (length left / 5) left
  unfolding lines
  next-line row left e n =
      let d : length (row ++ left) / 5 ≡ suc (length left / 5) = simp length-append (omega (arith, n)) in
      rw (
        e,
        d,
        get_or-append row left 0 0 (omega arith),
        get_or-append row left 0 1 (omega arith),
        get_or-append row left 0 2 (omega arith),
        get_or-append row left 0 3 (omega arith),
        get_or-append row left 0 4 (omega arith),
        drop_row row left n,
      )

  pub listing_next : (row left : List ℕ) → rest ≡ row ++ left → length row ≡ 5 → {new : List ℕ} {r : ℕ}
      → Puts out at (line_of row) 55 new r → Listing old from k rows new r left
  listing_next row left e n {new} {r} p =
      let v : List ℕ = line_of row in
      let w : List ℕ = lines (length left / 5) left in
      let m : length rest ≡ length row + length left = rw e (length-append row left) in
      record {
        whole = omega (arith, m, n, l.whole);
        room = omega (arith, m, n, p.most, l.room);
        same = l.same ∙ rw (next-line row left e n) (sets-append v w out at ∙ rw (p.bytes, p.next));
        count = l.count ∙ rw (next-line row left e n) (omega (arith, length-append v w, p.next));
        long = p.long ∙ l.long;
      }

  pub listing_done : length rest < 5 → Puts old from (lines k rows) (55 * k) out at
  unfolding lines
  listing_done h =
      let e : length rest / 5 ≡ 0 = omega arith in
      let n : length (lines (length rest / 5) rest) ≡ 0 = rw e in
      record {
        bytes = sym (l.same ∙ rw e);
        next = omega (arith, l.count);
        most = omega (arith, l.room);
        long = l.long;
      }
