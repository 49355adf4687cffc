-- What a turn keeps of the rows, and what the loop ends with, for whatever is ahead.
use Prim.Native.Nat.{ℕ, suc, ◌+◌, ◌≤◌}
use native.Mathlib.Omega.{arith}
use mathlib.Core.Path.{◌≡◌, refl, sym, ap, ◌∙◌}
use mathlib.Core.List.{List, [], ◌∷◌}
use lib.ListN.{length}
use lib.Seq.{sets, length-sets}
use Rattle.layout.specs.Walk.{Out, before, Out.list, Out.refused}
use Rattle.packet.specs.declared.Counter.{Counter}
use Rattle.packet.specs.declared.Found.{Found}
use Rattle.packet.specs.Counter.{advance}
use Rattle.packet.specs.Message.{Msg}
use Rattle.packet.specs.Row.{row, numbers, table, behind}
use Rattle.packet.specs.Seen.{message}
use Rattle.rows.specs.Fill.{Filled, Filled.filled, filling, Room, Filling}
use Rattle.rows.specs.Rows.{Put}

-- a table has room for one row, and then for the others
pub room-before : (n i : ℕ) (m : Msg) (o : Out Msg) → Room n i (before (m ∷ []) o) → (i + 5 ≤ n) × Room n (i + 5) o
room-before n i m (list ms) h = (omega arith, omega arith)
room-before n i m (refused a q) h = absurd h

-- one row is written, and then the others
filling-before : (d w : ℕ) (rows : List ℕ) (i : ℕ) (c : Counter) (m : Msg) (o : Out Msg)
    → filling d w rows i c (before (m ∷ []) o) ≡ filling d w (sets rows i (numbers (row d w c m))) (i + 5) (advance w 1 c m.ctr) o
unfolding table behind
filling-before d w rows i c m (list ms) =
    let e : i + 5 ≡ suc (suc (suc (suc (suc i)))) = omega arith in
    rw e
filling-before d w rows i c m (refused a q) = refl

module _ {d w : ℕ} {whole : Filled} {n : ℕ} {now : Out Msg} {i : ℕ} {c : Counter} {rows : List ℕ}
    (f : Filling d w whole n now i c rows) where
  pub fill_room : (m : Msg) (next : Out Msg) → now ≡ before (m ∷ []) next → i + 5 ≤ length rows
  fill_room m next e = rw f.long (room-before n i m next (rw e at f.room)).0

  pub fill_message : {t : List ℕ} {m : Found} {next : Out Msg} {new : List ℕ} {r : Counter} → now ≡ before (message t m ∷ []) next
      → Put d w t c m i rows new r → Filling d w whole n next (i + 5) r new
  fill_message {t} {m} {next} e u =
      record {
        sane = u.sane;
        long = ap length u.rows ∙ length-sets rows i (numbers (row d w c (message t m))) ∙ f.long;
        room = (room-before n i (message t m) next (rw e at f.room)).1;
        same = f.same ∙ rw (e, u.rows, u.state) (filling-before d w rows i c (message t m) next);
      }

  pub fill_rest : {next : Out Msg} → now ≡ next → Filling d w whole n next i c rows
  fill_rest e = record { sane = f.sane; long = f.long; room = rw e at f.room; same = f.same ∙ rw e }

  pub fill_nothing : now ≡ list [] → filled rows c ≡ whole
  unfolding table behind
  fill_nothing e = sym (f.same ∙ rw e)
