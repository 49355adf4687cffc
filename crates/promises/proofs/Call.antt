-- What is promised of a call, in document 01's words and once for every transport. Usb, Flexray and Udp say it of the functions: of any answer that a
-- contract allows, and of the lent table or output as the call then leaves it.
use Prim.Native.Nat.{ℕ, ◌+◌, ◌*◌, ◌%◌, ◌^◌, ◌<◌, ◌≤◌}
use native.Mathlib.Omega.{arith}
use mathlib.Core.Path.{◌≡◌, refl, sym, ◌∙◌}
use mathlib.Core.Bool.{true}
use mathlib.Core.Logic.{◌↔◌}
use mathlib.Core.List.{List, map}
use lib.ListN.{length, take, drop}
use Rattle.packet.specs.declared.Counter.{Counter}
use Rattle.packet.specs.Reading.{Reading, Reading as R}
use Rattle.packet.specs.Writing.{Writing, Writing as W}
use Rattle.packet.specs.Message.{Msg}
use Rattle.packet.specs.Counter.{holds, later}
use Rattle.packet.specs.Packets.{joined, packets, Matched}
use Rattle.packet.specs.Answer.{Answer, Gives, Accepted, read_number, read_value, read_state}
use Rattle.packet.proofs.AnswerLaws.{Exact, exactly}
use Rattle.packet.proofs.CounterLaws.{later-is, later_without, held}
use Rattle.packet.proofs.PacketsLaws.{Each, packets_lengths, packets-joined}
use Rattle.packet.proofs.ReaderLaws.{Alike, Rules, Reader}
use Rattle.packet.proofs.SeenLaws.{Shown}

-- every call is answered: no entry point asks anything (Tied has a line for each), and a contract's definition gives an answer for every input
pub answered : {E : Type 0} (a : Answer E) → (r : E) × (left : List ℕ) × Gives a r left
answered a = (a.answer, a.lent, record { answer = refl; lent = refl })

---- Any call -------------------------------------------------------------------------------------------------------------------

-- A call that was lent a table or an output, answers r, and leaves what was lent at `left`. `Refusal n p` says that document 01's table gives n at p;
-- `Accept k d` that nothing is refused, with k rows or bytes, and that the state or counter d follows
module _ {E C : Type 0} (refuse : ℕ → ℕ → E) (accept : ℕ → C → E) (Refusal : ℕ → ℕ → Type 0) (Accept : ℕ → C → Type 0)
    (lent : List ℕ) where
  pub record Answers (r : E) (left : List ℕ) : Type 0 where
    -- it is refused with n at p exactly when the table says so
    pub refused : (n p : ℕ) → (r ≡ refuse n p) ↔ Refusal n p
    -- a refusal has a number from 1 to 8, and changes nothing of what was lent
    pub refusal : (n p : ℕ) → r ≡ refuse n p → (0 < n) × (n ≤ 8) × (left ≡ lent)
    -- it is accepted with k and d exactly when nothing is refused
    pub accepted : (k : ℕ) (d : C) → (r ≡ accept k d) ↔ Accept k d

-- it keeps all that where the laws of its transport hold
pub answers_promised : {E C : Type 0} {refuse : ℕ → ℕ → E} {accept : ℕ → C → E} {Refusal : ℕ → ℕ → Type 0}
    {Accept : ℕ → C → Type 0} {lent : List ℕ} {a : Answer E} {r : E} {left : List ℕ} → Exact refuse accept Refusal Accept lent a → Gives a r left
    → Answers refuse accept Refusal Accept lent r left
answers_promised x g =
    record {
      refused = λ n p. exactly g (x.refused n p);
      refusal = λ n p e.
          let (least, most) = x.number n p ((exactly g (x.refused n p)).0 e) in
          (least, most, g.lent ∙ x.keeps n p (sym g.answer ∙ e));
      accepted = λ k d. exactly g (x.accepted k d);
    }

---- Readers --------------------------------------------------------------------------------------------------------------------

-- the answer r is some count of rows and some state
abbrev pub IsRows : Reading → Type 0
IsRows r = (k : ℕ) × (d : Counter) × (r ≡ R.Rows k d)

-- what document 01 says of a read, of an input into a table (packet's ReaderLaws)
module _ {input table : List ℕ} (S : Rules input table) where
  -- the table has room for the rows of the messages ms
  abbrev pub Room : List Msg → Type 0
  Room ms = 5 * length ms ≤ length table

  -- nothing is refused, with k rows, and the state d is left
  abbrev pub Accepts : (k : ℕ) (d : Counter) → Type 0
  Accepts = Accepted S.Fine S.Whole S.state (length table)

  -- a read that leaves the table at `left` gives the messages ms
  pub record Given (left : List ℕ) (ms : List Msg) : Type 0 where
    -- their rows stand at the front of the table, and those behind are unchanged
    pub front : take (5 * length ms) left ≡ S.rows ms
    pub past : drop (5 * length ms) left ≡ drop (5 * length ms) table
    -- a row's part shows exactly its packet's bytes
    pub shown : Each (Shown input) ms
    -- no other list makes up the input
    pub only : (ns : List Msg) → S.Whole ns → ns ≡ ms

  -- a read that answers r, and leaves the table at `left`
  pub record Read (r : Reading) (left : List ℕ) : Type 0 where
    pub answers : Answers R.Refused R.Rows S.Refusal Accepts table r left
    -- Demand 3: it is accepted exactly if some list of messages makes up the input and the table has room, at most one list does, and it gives that list
    pub demand : IsRows r ↔ ((ms : List Msg) × S.Fine × S.Whole ms × Room ms)
    pub gives : (ms : List Msg) → S.Fine → S.Whole ms → Room ms → (r ≡ R.Rows (length ms) (S.state ms)) × Given left ms

-- and a read keeps all this
pub read_promised : {input table : List ℕ} {S : Rules input table} {a : Answer Reading} {r : Reading} {left : List ℕ} → Reader S a → Gives a r left
    → Read S r left
read_promised {S = S} {r = r} {left = left} x g =
    record {
      answers = answers_promised x.exact g;
      demand = (from, λ y. (length y.0, S.state y.0, told y.0 y.1 y.2 y.3));
      gives = λ ms f w l. (told ms f w l, given ms f w l);
    }
  where
    from : IsRows r → (ms : List Msg) × S.Fine × S.Whole ms × Room S ms
    from (k, d, e) = let y = (exactly g (x.exact.accepted k d)).0 e in (y.messages, y.fine, y.whole, y.room)

    told : (ms : List Msg) → S.Fine → S.Whole ms → Room S ms → r ≡ R.Rows (length ms) (S.state ms)
    told ms f w l =
        (exactly g (x.exact.accepted (length ms) (S.state ms))).1
        (record { fine = f; messages = ms; whole = w; room = l; count = refl; left = refl })

    given : (ms : List Msg) → S.Fine → S.Whole ms → Room S ms → Given S left ms
    given ms f w l =
        let (front, past) = x.front ms f w l in
        record { front = rw g.lent front; past = rw g.lent past; shown = x.shown ms w; only = λ ns y. x.unique ns ms y w }

-- what a list that makes up the input is read as, by its length n
pub read_back : {input table : List ℕ} {S : Rules input table} {r : Reading} {left : List ℕ} → Read S r left → S.Fine → {ms : List Msg}
    → S.Whole ms → {n : ℕ} → length ms ≡ n → 5 * n ≤ length table → (r ≡ R.Rows n (S.state ms)) × (take (5 * n) left ≡ S.rows ms)
read_back x f {ms} w e l = let (told, rows) = x.gives ms f w (omega arith) in (rw e at told, rw e at rows.front)

-- two reads whose answers agree, of which the first leaves the state c, tell the same number, the same place or count, and leave the same table
pub same-told : {a b : Answer Reading} {c : Counter} → Alike a b c → {r u : Reading} {left past : List ℕ} → Gives a r left → Gives b u past
    → (read_state c r ≡ c) × (read_number r ≡ read_number u) × (read_value r ≡ read_value u) × (left ≡ past)
same-told same g h =
    (rw g.answer same.state, rw (g.answer, h.answer) same.number, rw (g.answer, h.answer) same.value, rw (g.lent, h.lent) same.lent)

---- Writers --------------------------------------------------------------------------------------------------------------------

-- A write of packets of the lengths ns in the joined bytes bs, with the first counter c of w bytes, that comes to the bytes `made` and moves the
-- counter by n; it answers k bytes and the next counter d, and leaves the output at `left`
module _ (bs ns : List ℕ) (c w n : ℕ) (made out : List ℕ) (k d : ℕ) (left : List ℕ) where
  pub record Bytes : Type 0 where
    -- the packets have the lengths given, and joined they are the bytes
    pub lengths : map length (packets ns bs) ≡ ns
    pub joins : joined (packets ns bs) ≡ bs
    -- the bytes stand at the front of the output, and those behind are unchanged
    pub count : k ≡ length made
    pub front : take k left ≡ made
    pub past : drop k left ≡ drop k out
    -- the next counter; the first counter unchanged where there is no CTR
    pub next : 0 < w → d ≡ (c + n) % 256 ^ w
    pub unaltered : w ≡ 0 → d ≡ c

pub bytes_promised : {bs ns : List ℕ} {c w n : ℕ} {made out : List ℕ} {k d : ℕ} {left : List ℕ} {a : Answer Writing} → Gives a (W.Bytes k d) left
    → Matched ns bs → holds w c ≡ true → k ≡ length made → d ≡ later w n c → (take k a.lent ≡ made) × (drop k a.lent ≡ drop k out)
    → Bytes bs ns c w n made out k d left
bytes_promised {bs} {ns} {c} {w} {n} g m v count next (front, past) =
    record {
      lengths = packets_lengths ns bs m.same;
      joins = packets-joined ns bs m.same;
      count = count;
      front = rw g.lent front;
      past = rw g.lent past;
      next = λ h. next ∙ later-is w n c h (held w c v h);
      unaltered = λ z. next ∙ rw z (later_without n c);
    }
