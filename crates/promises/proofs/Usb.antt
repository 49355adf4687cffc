-- What is promised of usb_reader::read and usb_writer::write: each theorem is about any answer r that the function's contract allows, and about
-- the lent table or output as the call then leaves it. OneResult says that there is only one.
use Prim.Native.Nat.{ℕ, ◌+◌, ◌-◌, ◌*◌, ◌/◌, ◌%◌, ◌<◌, ◌≤◌}
use mathlib.Core.Path.{◌≡◌, refl, sym, ap, ◌∙◌}
use mathlib.Core.Bool.{Bool, true, false}
use mathlib.Core.List.{List, [], map}
use lib.ListN.{length, length-map, take, get_or}
use Rattle.packet.specs.declared.Counter.{Counter}
use Rattle.packet.specs.Reading.{Reading, Reading as R}
use Rattle.packet.specs.Writing.{Writing, Writing as TheWriting}
use Rattle.packet.specs.Message.{Msg}
use Rattle.packet.specs.Counter.{valid, later}
use Rattle.packet.specs.Row.{table, behind}
use Rattle.packet.specs.Packets.{packets}
use Rattle.packet.specs.Answer.{Gives, read_number, read_value, read_state}
use Rattle.packet.proofs.PacketsLaws.{length-packets}
use Rattle.usb.specs.declared.Setting.{Setting}
use Rattle.usb.specs.Setting.{H, W}
use Rattle.usb.specs.Layout.{Transfer}
use Rattle.usb.specs.Reading.{read_of}
use Rattle.usb.specs.Writing.{write, placed, write_of}
use Rattle.usb.specs.Refusal.{WriteRefusal, WriteAccept}
use Rattle.usb.proofs.SettingLaws.{good}
use Rattle.usb.proofs.RefusalLaws.{counter_unread}
use Rattle.usb.proofs.WriteLaws as Laws
pub use Rattle.usb.proofs.RefusalLaws.{rules, read_exact}
pub use Rattle.usb.proofs.WriteLaws.{write_exact}
use Rattle.usb.proofs.WrittenLaws.{placed-packets, placed-counter}
use Rattle.usb.proofs.FirstLaws.{AtFirst, placed_first, filled_up, empty-none}
use Rattle.usb.proofs.BoundLaws.{total, stream_bound}
use Rattle.promises.proofs.Call.{Answers, answers_promised, Read, read_promised, read_back, same-told, Bytes, bytes_promised}

---- The reader -----------------------------------------------------------------------------------------------------------------

-- a transfer t is read with the state c into the table rows
module _ (s : Setting) (t : List ℕ) (c : Counter) (rows : List ℕ) where
  -- what usb_reader::read may answer and leave
  abbrev pub Reads : Reading → List ℕ → Type 0
  Reads r left = Gives (read_of s t c rows) r left

  -- refused and accepted exactly when document 01 says so; a refusal changes nothing; and demand 3
  pub reads : {r : Reading} {left : List ℕ} → Reads r left → Read (rules s t c rows) r left
  reads = read_promised (read_exact s t c rows)

-- without CTR the state is neither altered nor read: two states give the same number, the same place or count, and the same rows
pub read_unread : (s : Setting) (t rows : List ℕ) → W s ≡ 0 → (b c : Counter) {r u : Reading} {left past : List ℕ}
    → Reads s t b rows r left → Reads s t c rows u past
    → (read_state b r ≡ b) × (read_number r ≡ read_number u) × (read_value r ≡ read_value u) × (left ≡ past)
read_unread s t rows none b c = same-told (counter_unread s t none rows b c)

---- The writer -----------------------------------------------------------------------------------------------------------------

-- packets of the lengths ns in the joined bytes bs are written with the first counter c and a fill byte, filled up or not, into the output
module _ (s : Setting) (bs ns : List ℕ) (c fill : ℕ) (full : Bool) (out : List ℕ) where
  -- what usb_writer::write may answer and leave
  abbrev pub Writes : Writing → List ℕ → Type 0
  Writes r left = Gives (write_of s bs ns c fill full out) r left

  -- refused and accepted exactly when document 01 says so; a refusal changes nothing
  pub writes : {r : Writing} {left : List ℕ} → Writes r left
      → Answers TheWriting.Refused TheWriting.Bytes (WriteRefusal s bs ns c fill full (length out)) (WriteAccept s bs ns c fill full (length out)) out r left
  writes = answers_promised (write_exact s bs ns c fill full out)

  -- the packets that are given, and the messages that come to stand
  abbrev pub given : List (List ℕ)
  given = packets ns bs

  abbrev pub sent : List Msg
  sent = placed s 0 c given

  -- what holds of a call that answers k bytes and the next counter d, and leaves the output at `left`
  pub record Written (k d : ℕ) (left : List ℕ) : Type 0 where
    pub bytes : Bytes bs ns c (W s) (length ns) (write s fill full 0 c given) out k d left
    -- they are laid out as the packets given, each with its counter
    pub laid : Transfer s sent (take k left)
    pub same : map (λ m. m.packet) sent ≡ given
    pub counters : 0 < W s → (m : Msg) (i : ℕ) → i < length ns → (get_or sent i m).ctr ≡ later (W s) i c
    -- each message starts at the first place the layout permits, without skipping
    pub first : AtFirst s 0 sent
    -- filled up, it ends with a data packet's end; an empty list gives no bytes, filled up or not
    pub filled : full ≡ true → k % s.datapacket ≡ 0
    pub empty : ns ≡ [] → k ≡ 0
    -- without filling up, a streamed transfer is at most the messages' total plus H - 1 for each full data packet
    pub bound : full ≡ false → s.packing ≡ 2 → k ≤ total s given + (H s - 1) * (k / s.datapacket)

  pub written : {k d : ℕ} {left : List ℕ} → Writes (TheWriting.Bytes k d) left → Written k d left
  unfolding packets
  written {k} {d} {left} g =
      let e : (write_of s bs ns c fill full out).answer ≡ TheWriting.Bytes k d = sym g.answer in
      let a : WriteAccept s bs ns c fill full (length out) k d = ((writes g).accepted k d).0 refl in
      let ok = a.willing.setting in
      let n : length given ≡ length ns = length-packets ns bs in
      record {
        bytes =
            bytes_promised g a.matched a.willing.counter a.count a.next
            (Laws.written_front s bs ns c fill full out k d e);
        laid = rw g.lent (Laws.written_laid s bs ns c fill full out k d e);
        same = placed-packets s (good s ok) fill 0 c given;
        counters = λ w m i l. placed-counter s (good s ok) fill m 0 c given i w (rw n l);
        first = placed_first s ok 0 c given;
        filled = λ x. rw (a.count, x) (filled_up s ok fill c given);
        empty = λ z. rw (a.count, z) (ap length (empty-none s fill c full));
        bound = λ x z. rw (a.count, x) (stream_bound s ok z fill c given);
      }

  -- What was written reads back as the same list, with every state that is not refused and every table that has room
  module _ {k d : ℕ} {left : List ℕ} (g : Writes (TheWriting.Bytes k d) left) (e : Counter) (rows : List ℕ) where
    pub round_trip : {r : Reading} {past : List ℕ} → Reads s (take k left) e rows r past → valid (W s) e ≡ true → 5 * length ns ≤ length rows
        → (r ≡ R.Rows (length ns) (behind (W s) e sent)) × (take (5 * length ns) past ≡ table s.direction (W s) e sent)
        × (map (λ m. m.packet) sent ≡ given)
    round_trip h v l =
        let w = written g in
        let n : length sent ≡ length ns = sym (length-map sent (λ m. m.packet)) ∙ ap length w.same ∙ length-packets ns bs in
        let (told, front) = read_back (reads s (take k left) e rows h) (record { setting = w.laid.setting; counter = v }) w.laid n l in
        (told, front, w.same)
