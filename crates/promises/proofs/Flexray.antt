-- What is promised of a FlexRay reader and writer with the contracts `Reads` and `Writes`: each theorem is about any answer r that the contract allows,
-- and about the lent table or output as the call then leaves it. OneResult says that there is only one.
use Prim.Native.Nat.{ℕ, ◌+◌, ◌*◌, ◌%◌, ◌<◌, ◌≤◌}
use native.Mathlib.Omega.{arith}
use mathlib.Core.Path.{◌≡◌, refl, sym, ◌∙◌}
use mathlib.Core.Bool.{true}
use mathlib.Core.List.{List, [], ◌∷◌, ◌++◌, map}
use lib.ListN.{length, take, get_or, replicate}
use Rattle.packet.specs.declared.Counter.{Counter}
use Rattle.packet.specs.Reading.{Reading, Reading as R}
use Rattle.packet.specs.Writing.{Writing, Writing as TheWriting}
use Rattle.packet.specs.Message.{Msg}
use Rattle.packet.specs.Counter.{valid}
use Rattle.packet.specs.Packets.{packets}
use Rattle.packet.specs.Answer.{Gives, read_number, read_value, read_state}
use Rattle.packet.proofs.PacketsLaws.{length-packets}
use Rattle.flexray.specs.declared.Setting.{Setting}
use Rattle.flexray.specs.Setting.{H, L, W, moved}
use Rattle.flexray.specs.Layout.{Frame}
use Rattle.flexray.specs.Row.{frame_table, frame_state}
use Rattle.flexray.specs.Reading.{read_of}
use Rattle.flexray.specs.Writing.{frame, placed, write_of}
use Rattle.flexray.specs.Refusal.{WriteRefusal, WriteAccept}
use Rattle.flexray.proofs.RefusalLaws.{counter_unread}
use Rattle.flexray.proofs.WriteLaws as Laws
pub use Rattle.flexray.proofs.RefusalLaws.{rules, read_exact}
pub use Rattle.flexray.proofs.WriteLaws.{write_exact}
use Rattle.promises.proofs.Call.{Answers, answers_promised, Read, read_promised, read_back, same-told, Bytes, bytes_promised}

---- The reader -----------------------------------------------------------------------------------------------------------------

-- a frame t is read with the state c into the table rows
module _ (s : Setting) (t : List ℕ) (c : Counter) (rows : List ℕ) where
  -- what a read may answer and leave
  abbrev pub Reads : Reading → List ℕ → Type 0
  Reads r left = Gives (read_of s t c rows) r left

  -- refused and accepted exactly when document 01 says so; a refusal changes nothing; and demand 3
  pub reads : {r : Reading} {left : List ℕ} → Reads r left → Read (rules s t c rows) r left
  reads = read_promised (read_exact s t c rows)

-- without CTR the state is neither altered nor read: two states give the same number, the same place or count, and the same rows
pub read_unread : (s : Setting) (t rows : List ℕ) → W s ≡ 0 → (b c : Counter) {r u : Reading} {left past : List ℕ}
    → Reads s t b rows r left → Reads s t c rows u past
    → (read_state b r ≡ b) × (read_number r ≡ read_number u) × (read_value r ≡ read_value u) × (left ≡ past)
read_unread s t rows none b c = same-told (counter_unread s t none rows b c)

---- The writer -----------------------------------------------------------------------------------------------------------------

-- packets of the lengths ns in the joined bytes bs are written with the counter c and a fill byte into the output
module _ (s : Setting) (bs ns : List ℕ) (c fill : ℕ) (out : List ℕ) where
  -- what a write may answer and leave
  abbrev pub Writes : Writing → List ℕ → Type 0
  Writes r left = Gives (write_of s bs ns c fill out) r left

  -- refused and accepted exactly when document 01 says so; a refusal changes nothing
  pub writes : {r : Writing} {left : List ℕ} → Writes r left
      → Answers TheWriting.Refused TheWriting.Bytes (WriteRefusal s bs ns c fill (length out)) (WriteAccept s bs ns c fill (length out)) out r left
  writes = answers_promised (write_exact s bs ns c fill out)

  -- the packets that are given, and those that a reader sees
  abbrev pub given : List (List ℕ)
  given = packets ns bs

  abbrev pub sent : List Msg
  sent = placed s fill c given

  -- what holds of a call that answers k bytes and the next counter d, and leaves the output at `left`
  pub record Written (k d : ℕ) (left : List ℕ) : Type 0 where
    pub bytes : Bytes bs ns c (W s) (moved (length ns)) (frame s fill c given) out k d left
    -- they are a frame of the packets given
    pub laid : Frame s sent (take k left)
    pub same : 0 < L s → map (λ m. m.packet) sent ≡ given
    -- without LEN of the one packet, perhaps with the fill byte that evens the frame
    pub alone : L s ≡ 0 → map (λ m. m.packet) sent ≡ (bs ++ replicate ((H s + length bs) % 2) fill) ∷ []
    -- the first packet carries the counter
    pub counter : 0 < W s → (m : Msg) → (get_or sent 0 m).ctr ≡ c
    -- the length is even, and no frame of these packets is shorter
    pub even : k % 2 ≡ 0
    pub least : (t : List ℕ) → Frame s sent t → k ≤ length t

  pub written : {k d : ℕ} {left : List ℕ} → Writes (TheWriting.Bytes k d) left → Written k d left
  written {k} {d} {left} g =
      let e : (write_of s bs ns c fill out).answer ≡ TheWriting.Bytes k d = sym g.answer in
      let a : WriteAccept s bs ns c fill (length out) k d = ((writes g).accepted k d).0 refl in
      let n : length given ≡ length ns = length-packets ns bs in
      let f = Laws.written_front s bs ns c fill out k d e in
      let x = Laws.written_laid s bs ns c fill out k d e in
      let b : Bytes bs ns c (W s) (moved (length ns)) (frame s fill c given) out k d left =
      bytes_promised g a.matched a.willing.counter a.count a.next f in
      record {
        bytes = b;
        laid = rw g.lent x;
        same = λ l. Laws.written_packets s fill c l given;
        alone = λ l. rw b.joins at (Laws.written_alone s fill c l given (n ∙ a.counted.one l));
        counter = λ w m. Laws.written_counter m s fill c given (omega (arith, a.counted.some)) w;
        even = rw a.count (rw f.0 at x.sized.evened.even);
        least = Laws.written_least s bs ns c fill out k d e;
      }

  -- What was written reads back, with every state that is not refused and every table that has room: `same` and `alone` say which packets those are
  module _ {k d : ℕ} {left : List ℕ} (g : Writes (TheWriting.Bytes k d) left) (e : Counter) (rows : List ℕ) where
    pub round_trip : {r : Reading} {past : List ℕ} → Reads s (take k left) e rows r past → valid (W s) e ≡ true → 5 * length ns ≤ length rows
        → (r ≡ R.Rows (length ns) (frame_state (W s) e sent)) × (take (5 * length ns) past ≡ frame_table s.direction (W s) e sent)
    round_trip h v l =
        let w = written g in
        let n : length sent ≡ length ns = Laws.placed-length s fill c given ∙ length-packets ns bs in
        read_back (reads s (take k left) e rows h) (record { setting = w.laid.setting; counter = v }) w.laid n l
