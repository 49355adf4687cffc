-- What is promised of udp_reader::read and udp_writer::write: each theorem is about any answer r that the function's contract allows, and about
-- the lent table or output as the call then leaves it. OneResult says that there is only one.
use Prim.Native.Nat.{ℕ, ◌+◌, ◌*◌, ◌<◌, ◌≤◌}
use native.Mathlib.Omega.{arith}
use mathlib.Core.Path.{◌≡◌, refl, sym, ap, ◌∙◌}
use mathlib.Core.Bool.{true}
use mathlib.Core.List.{List, map}
use lib.ListN.{length, length-map, take, get_or}
use Rattle.packet.specs.declared.Counter.{Counter}
use Rattle.packet.specs.Reading.{Reading, Reading as R}
use Rattle.packet.specs.Writing.{Writing, Writing as TheWriting}
use Rattle.packet.specs.Answer.{Gives}
use Rattle.packet.specs.Counter.{valid, later}
use Rattle.packet.specs.Message.{Msg}
use Rattle.packet.specs.Packets.{packets}
use Rattle.packet.specs.Row.{table, behind}
use Rattle.packet.proofs.PacketsLaws.{length-packets}
use Rattle.udp.specs.declared.Setting.{Setting}
use Rattle.udp.specs.Setting.{H, W}
use Rattle.udp.specs.Layout.{Datagram}
use Rattle.udp.specs.Reading.{read_of}
use Rattle.udp.specs.Writing.{write, placed, write_of}
use Rattle.udp.specs.Refusal.{WriteRefusal, WriteAccept}
use Rattle.udp.proofs.WriteLaws as Laws
pub use Rattle.udp.proofs.ReadLaws.{rules, read_exact}
pub use Rattle.udp.proofs.WriteLaws.{write_exact}
use Rattle.promises.proofs.Call.{Answers, answers_promised, Read, read_promised, read_back, Bytes, bytes_promised}

-- a datagram t is read with the state c into the table rows: what udp_reader::read may answer and leave
abbrev pub Reads : Setting → (t : List ℕ) → Counter → (rows : List ℕ) → Reading → List ℕ → Type 0
Reads s t c rows = Gives (read_of s t c rows)

-- refused and accepted exactly when document 01's table and Ask 3 say so; a refusal changes nothing; and demand 3
pub reads : (s : Setting) (t : List ℕ) (c : Counter) (rows : List ℕ) {r : Reading} {left : List ℕ} → Reads s t c rows r left
    → Read (rules s t c rows) r left
reads s t c rows = read_promised (read_exact s t c rows)

---- The writer -----------------------------------------------------------------------------------------------------------------

-- packets of the lengths ns in the joined bytes bs are written with the first counter c into the output
module _ (s : Setting) (bs ns : List ℕ) (c : ℕ) (out : List ℕ) where
  -- what udp_writer::write may answer and leave
  abbrev pub Writes : Writing → List ℕ → Type 0
  Writes = Gives (write_of s bs ns c out)

  pub writes : {r : Writing} {left : List ℕ} → Writes r left
      → Answers TheWriting.Refused TheWriting.Bytes (WriteRefusal s bs ns c (length out)) (WriteAccept s bs ns c (length out)) out r left
  writes = answers_promised (write_exact s bs ns c out)

  -- the packets that are given, and the messages that come to stand
  abbrev pub given : List (List ℕ)
  given = packets ns bs

  abbrev pub sent : List Msg
  sent = placed 0 c given

  -- what holds of a call that answers k bytes and the next counter d, and leaves the output at `left`
  pub record Written (k d : ℕ) (left : List ℕ) : Type 0 where
    pub bytes : Bytes bs ns c W (length ns) (write c given) out k d left
    -- they are laid out as the packets given, each with its counter
    pub laid : Datagram s sent (take k left)
    pub same : map (λ m. m.packet) sent ≡ given
    pub counters : (m : Msg) (i : ℕ) → i < length ns → (get_or sent i m).ctr ≡ later W i c
    -- a header for each packet, the packets, and no other byte: so an empty list gives no bytes
    pub total : k ≡ H * length ns + length bs

  pub written : {k d : ℕ} {left : List ℕ} → Writes (TheWriting.Bytes k d) left → Written k d left
  written {k} {d} {left} g =
      let e : (write_of s bs ns c out).answer ≡ TheWriting.Bytes k d = sym g.answer in
      let a : WriteAccept s bs ns c (length out) k d = ((writes g).accepted k d).0 refl in
      let n : length given ≡ length ns = length-packets ns bs in
      record {
        bytes = bytes_promised g a.matched a.willing.counter a.count a.next (Laws.written_front s bs ns c out k d e);
        laid = rw g.lent (Laws.written_laid s bs ns c out k d e);
        same = Laws.placed-packets 0 c given;
        counters = λ m i l. Laws.placed-counter m 0 c given i (rw n l);
        total = omega (arith, a.count, Laws.write-length c ns bs a.matched.same, a.matched.same);
      }

  -- What was written reads back as the same list, with every state that is not refused and every table that has room
  pub round_trip : {k d : ℕ} {left : List ℕ} → Writes (TheWriting.Bytes k d) left → (e : Counter) (rows : List ℕ) {r : Reading} {past : List ℕ}
      → Reads s (take k left) e rows r past → valid W e ≡ true → 5 * length ns ≤ length rows
      → (r ≡ R.Rows (length ns) (behind W e sent)) × (take (5 * length ns) past ≡ table s.direction W e sent)
      × (map (λ m. m.packet) sent ≡ given)
  round_trip {k} {left = left} g e rows h v l =
      let w = written g in
      let n : length sent ≡ length ns = sym (length-map sent (λ m. m.packet)) ∙ ap length w.same ∙ length-packets ns bs in
      let (told, front) = read_back (reads s (take k left) e rows h) (record { setting = w.laid.setting; counter = v }) w.laid n l in
      (told, front, w.same)
