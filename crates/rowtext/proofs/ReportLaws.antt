-- A table of 2,048 rows is enough for every input that the program reads, and what stood in it does not matter.
use Prim.Native.Nat.{ℕ, ◌+◌, ◌*◌, ◌%◌, ◌<◌, ◌≤◌}
use borrow.Author.Rules.{rules}
use native.Mathlib.Omega.{arith}
use mathlib.Core.Path.{◌≡◌, refl, sym, ◌∙◌}
use mathlib.Core.List.{List, ◌++◌}
use lib.ListN.{length, drop, length-append}
use lib.Seq.{sets, sets-eq}
use borrow.Author.Tests.{lt-ltb, le-ltb}
use Rattle.layout.specs.Walk.{Out, Out.list, Out.refused}
use Rattle.packet.specs.declared.Counter.{Counter}
use Rattle.packet.specs.Reading.{Reading, Reading as R}
use Rattle.packet.specs.Answer.{Gives, settled}
use Rattle.packet.specs.Counter.{fresh, valid}
use Rattle.packet.specs.Message.{Msg}
use Rattle.packet.specs.Row.{table}
use Rattle.packet.proofs.RowLaws.{length-table}
use Rattle.usb.specs.Layout.{Laid, Laid.here, Laid.message, Laid.rest}
use Rattle.usb.specs.declared.Setting.{Setting}
use Rattle.usb.specs.Setting.{W}
use Rattle.usb.specs.Reading.{judged, read_of}
use Rattle.usb.proofs.ReadLaws.{read_sound}
use Rattle.usb.proofs.RefusalLaws.{accepted_exactly}
use Rattle.spelling.specs.Put.{Reports}
use Rattle.spelling.specs.Text.{refused_text}
use Rattle.spelling.proofs.ReportLaws.{tells_so}
use Rattle.rowtext.proofs.RowsLaws.{lines_front}
use Rattle.rowtext.specs.Text.{told, text_of, said, program_text, u1}
use Rattle.rowtext.specs.Put.{Within, Roomy, Tellable, Prepared}

---- An answer ------------------------------------------------------------------------------------------------------------------

within : (t : List ℕ) (c : Counter) (rows new : List ℕ) → length new ≡ length rows → (r : Reading)
    → r ≡ (read_of u1 t c rows).answer → Within r new
within t c rows new l (R.Rows k d) e =
    let a = (accepted_exactly u1 t c rows k d).0 (sym e) in
    omega (arith, a.room, a.count)
within t c rows new l (R.Refused n p) e = tt

tellable : {out rows new : List ℕ} → Roomy out rows → (t : List ℕ) (c : Counter) {r : Reading} → Gives (read_of u1 t c rows) r new
    → length new ≡ length rows → Tellable out new r
tellable {out} {rows} {new} k t c {r} g l =
    record {
      roomy = record { lines = omega (arith, k.lines); refusal = k.refusal };
      within = within t c rows new l r g.answer;
    }

---- The rows that fit ----------------------------------------------------------------------------------------------------------

-- a message has at least four bytes
four : {p : ℕ} {cs : List ℕ} {q : ℕ} {bs : List ℕ} {ms : List Msg} → Laid u1 p cs q ms bs → 4 * length ms ≤ length bs
four here = omega arith
four (message h b e {bs = bs} {ms = ms} m l) =
    let w : (length h + length b + length e) % 4 ≡ 0 = m.whole in
    simp length-append (omega (arith, four l, m.least))
four (rest r {bs = bs} f x l) = simp length-append (omega (arith, four l))

---- The program ----------------------------------------------------------------------------------------------------------------

module _ (t rows : List ℕ) (n : 10240 ≤ length rows) (h : length t ≤ 8192) where
  -- what was judged is told as it was judged: the table is never too small
  same-said : (o : Out Msg) → judged u1 t ≡ o → text_of (read_of u1 t fresh rows) ≡ said o
  unfolding read_of settled valid
  same-said (refused a p) e = rw e
  same-said (list ms) e =
      let f : 4 * length ms ≤ length t = four (read_sound u1 t ms e).laid in
      let tb : List ℕ = table u1.direction (W u1) fresh ms in
      let l : length tb ≡ 5 * length ms = length-table u1.direction (W u1) fresh ms in
      let s : sets rows 0 tb ≡ tb ++ drop (0 + length tb) rows = sets-eq tb rows 0 (omega arith) in
      rw (e, le-ltb (length rows) (5 * length ms) (omega arith), s)
      (lines_front (length ms) tb (drop (0 + length tb) rows) (omega arith))

  short-text : text_of (read_of u1 t fresh rows) ≡ program_text t
  unfolding program_text
  short-text = same-said (judged u1 t) refl ∙ rw (le-ltb 8192 (length t) h)

long-text : (t : List ℕ) → 8192 < length t → refused_text 2 0 ≡ program_text t
unfolding program_text
long-text t h = rw (lt-ltb 8192 (length t) h)

pub roomy : {out rows : List ℕ} → Prepared out rows → Roomy out rows
roomy p = record { lines = p.room; refusal = omega (arith, p.room, p.table) }

-- what was read is told
module _ {s : Setting} {c : Counter} (e : s ≡ u1) (f : c ≡ fresh) (t rows : List ℕ) {new : List ℕ} {r : Reading}
    (g : Gives (read_of s t c rows) r new) {out : List ℕ} where
  pub tell_room : Roomy out rows → length new ≡ length rows → Tellable out new r
  tell_room k l = tellable k t fresh (rw (e, f) at g) l

  pub tell_text : {n : ℕ} {text : List ℕ} → Reports out (told r new) text n → Reports out (text_of (read_of u1 t fresh rows)) text n
  tell_text p = let h = rw (e, f) at g in tells_so p (rw (h.answer, h.lent))

-- .. or a longer input is refused
module _ (t : List ℕ) {out rows new : List ℕ} {r : ℕ} (p : Prepared out rows) where
  pub report_long : 8192 < length t → Reports out (refused_text 2 0) new r → Reports out (program_text t) new r
  report_long h x = tells_so x (long-text t h)

  pub report_short : length t ≤ 8192 → Reports out (text_of (read_of u1 t fresh rows)) new r → Reports out (program_text t) new r
  report_short h x = tells_so x (short-text t rows p.table h)

pub ruleset reports = (rules, roomy, tell_room, tell_text, report_long, report_short)
