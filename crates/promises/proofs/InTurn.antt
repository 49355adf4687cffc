-- Frames one behind another: frames that are written with the counter handed on, and read in that order with the state handed on, show no gap, however many
-- packets each has; and so do any frames that a sender laid out with those counters. It holds however far a frame moves the counter.
use Prim.Native.Nat.{ℕ, ◌+◌, ◌*◌, ◌%◌, ◌^◌, ◌<◌, ◌≤◌}
use native.Mathlib.Omega.{arith}
use native.Mathlib.Nat.{mod-lt}
use mathlib.Core.Path.{◌≡◌, refl, sym, ap, ◌∙◌}
use mathlib.Core.Bool.{true}
use mathlib.Core.List.{List, [], ◌∷◌}
use lib.ListN.{length, get_or, take}
use lib.Seq.{get_or-take}
use Rattle.packet.specs.declared.Counter.{Counter}
use Rattle.packet.specs.Reading.{Reading, Reading as R}
use Rattle.packet.specs.Writing.{Writing as TheWriting}
use Rattle.packet.specs.Message.{Msg}
use Rattle.packet.specs.Counter.{valid}
use Rattle.packet.specs.Packets.{packets}
use Rattle.packet.specs.Answer.{read_number, read_value, read_state}
use Rattle.packet.proofs.CounterLaws.{gap_due, exceeds_known, held}
use Rattle.packet.proofs.PacketsLaws.{Each, length-packets}
use Rattle.flexray.specs.declared.Setting.{Setting}
use Rattle.flexray.specs.Setting.{W, moved}
use Rattle.flexray.specs.Layout.{Laid, Laid.frame, Frame}
use Rattle.flexray.specs.Row.{frame_state}
use Rattle.flexray.proofs.RowLaws.{frame_gaps, frame_expects}
use Rattle.flexray.proofs.SettingLaws.{good}
use Rattle.flexray.proofs.WriteLaws.{placed-length}
use Rattle.plan.proofs.CaseLaws.{by_test}
use Rattle.promises.proofs.Call.{read_back}
use Rattle.promises.proofs.Flexray.{Reads, reads, Writes, writes, written, sent}

-- a frame on its way: its packets and its bytes; and how it is read, with the table that is lent for its rows, what is answered, and how the table is left
pub record Passage : Type 0 where
  pub packets : List Msg
  pub frame : List ℕ
  pub lent : List ℕ
  pub answer : Reading
  pub left : List ℕ

-- each packet has its row, and no row shows a gap, which is the fourth of its five numbers
pub record NoGap (x : Passage) : Type 0 where
  pub all : (read_number x.answer ≡ 0) × (read_value x.answer ≡ length x.packets)
  pub none : (i : ℕ) → i < length x.packets → get_or x.left (5 * i + 3) 1 ≡ 0

module _ (s : Setting) where
  ---- What is sent, and what is read ------------------------------------------------------------------------------------------

  -- a frame is laid out by the sender's rules, and its first packet carries the counter c
  pub record Counted (c : ℕ) (x : Passage) : Type 0 where
    pub laid : Frame s x.packets x.frame
    pub counter : (m : Msg) → (get_or x.packets 0 m).ctr ≡ c

  -- frames that were laid out one behind another: behind one of n packets with counter c comes one with c + moved n, modulo 256
  abbrev pub Sent : ℕ → List Passage → Type 0
  Sent c [] = Unit {0}
  Sent c (x ∷ xs) = Counted c x × Sent ((c + moved (length x.packets)) % 256) xs

  -- a frame is what a write with the counter c has left, which answered the next counter d
  pub record Wrote (c d : ℕ) (x : Passage) : Type 0 where
    pub bytes : List ℕ
    pub lengths : List ℕ
    pub fill : ℕ
    pub out : List ℕ
    pub count : ℕ
    pub left : List ℕ
    pub call : Writes s bytes lengths c fill out (TheWriting.Bytes count d) left
    pub frame : x.frame ≡ take count left
    pub packets : x.packets ≡ sent s bytes lengths c fill out

  -- frames that were written one behind another: each write is given the counter that the one before answered
  abbrev pub Written : ℕ → List Passage → Type 0
  Written c [] = Unit {0}
  Written c (x ∷ xs) = (d : ℕ) × Wrote c d x × Written d xs

  -- a frame is read with the state e, into a table that has room for its packets
  pub record Arrives (e : Counter) (x : Passage) : Type 0 where
    pub call : Reads s x.frame e x.lent x.answer x.left
    pub room : 5 * length x.packets ≤ length x.lent

  -- frames that are read one behind another: each read is given the state that the one before left
  abbrev pub Read : Counter → List Passage → Type 0
  Read e [] = Unit {0}
  Read e (x ∷ xs) = Arrives e x × Read (read_state e x.answer) xs

  ---- No gap ------------------------------------------------------------------------------------------------------------------

  -- a state that is fresh, or expects the counter c
  abbrev pub Due : Counter → ℕ → Type 0
  Due e c = 0 < e.known → e.expected ≡ c

  module _ (carried : 0 < W s) where
    due_valid : {e : Counter} {c : ℕ} → c < 256 ^ W s → Due e c → valid (W s) e ≡ true
    due_valid {e} {c} l due =
        by_test (valid (W s) e) (λ v. v)
        (λ v. let (known, x) = exceeds_known (W s) e v in absurd (omega (arith, x.over, due known)))

    laid-some : {end : ℕ} {left t : List ℕ} {ms : List Msg} → Laid s end left ms t → 0 < length ms
    laid-some (frame h b f g) = omega arith

    -- a frame with the counter that is due: its rows show no gap, and behind it that counter as its packets move it is expected
    one : {c : ℕ} {e : Counter} {t left : List ℕ} {r : Reading} (rows : List ℕ) (ms : List Msg) → c < 256 → Frame s ms t
        → ((m : Msg) → (get_or ms 0 m).ctr ≡ c) → Due e c → Reads s t e rows r left → 5 * length ms ≤ length rows
        → (r ≡ R.Rows (length ms) (record { known = 1; expected = (c + moved (length ms)) % 256 }))
        × ((i : ℕ) → i < length ms → get_or left (5 * i + 3) 1 ≡ 0)
    one rows [] l f n due call room = absurd (omega (arith, laid-some f.laid))
    one {c} {e} {t} {left} rows (m ∷ ms) l f n due call room =
        let w : W s ≡ 1 = omega (arith, (good s f.setting).ctrs) in
        let i : m.ctr ≡ c = n m in
        let b : m.ctr < 256 ^ W s = rw (w, i) l in
        let d : Due e m.ctr = λ u. due u ∙ sym i in
        let state : frame_state (W s) e (m ∷ ms) ≡ record { known = 1; expected = (c + moved (length (m ∷ ms))) % 256 } =
        rw (w, ← i) (frame_expects e m ms (omega arith)) in
        let (told, front) = read_back (reads s t e rows call) (record { setting = f.setting; counter = due_valid b d }) f refl room in (
          told ∙ ap (R.Rows (length (m ∷ ms))) state,
          λ j h.
              sym (get_or-take (5 * length (m ∷ ms)) left (5 * j + 3) 1 (omega arith))
              ∙ ap (λ ns. get_or ns (5 * j + 3) 1) front
              ∙ frame_gaps s.direction (W s) e m ms (gap_due (W s) e m.ctr b d) j 1 h,
        )

    -- frames laid out one behind another with their counters show no gap
    pub no_gap : {c : ℕ} {e : Counter} (xs : List Passage) → c < 256 → Sent c xs → Due e c → Read e xs → Each NoGap xs
    no_gap {c} {e} [] l p due q = tt
    no_gap {c} {e} (x ∷ xs) l (k, p) due (a, q) =
        let (told, gaps) = one x.lent x.packets l k.laid k.counter due a.call a.room in
        let state : read_state e x.answer ≡ record { known = 1; expected = (c + moved (length x.packets)) % 256 } = ap (read_state e) told in (
          record { all = (ap read_number told, ap read_value told); none = gaps },
          no_gap {c = (c + moved (length x.packets)) % 256} {e = read_state e x.answer} xs
              (mod-lt (c + moved (length x.packets)) (omega arith)) p (λ u. ap (λ z. z.expected) state) q,
        )

    ---- Written frames --------------------------------------------------------------------------------------------------------

    -- a written frame carries the counter that was given, and the counter that is answered is that as its packets move it
    counted : {c d : ℕ} (x : Passage) → Wrote c d x → (c < 256) × Counted c x × (d ≡ (c + moved (length x.packets)) % 256)
    counted {c} {d} x v =
        let a = ((writes s v.bytes v.lengths c v.fill v.out v.call).accepted v.count d).0 refl in
        let y = written s v.bytes v.lengths c v.fill v.out v.call in
        let w : W s ≡ 1 = omega (arith, (good s a.willing.setting).ctrs) in
        let n : length x.packets ≡ length v.lengths =
        ap length v.packets ∙ placed-length s v.fill c (packets v.lengths v.bytes) ∙ length-packets v.lengths v.bytes in (
          rw w at (held (W s) c a.willing.counter carried),
          record { laid = rw (v.packets, v.frame) y.laid; counter = λ m. rw v.packets (y.counter carried m) },
          rw n (rw w at (y.bytes.next carried)),
        )

    pub written_sent : (c : ℕ) (xs : List Passage) → Written c xs → Sent c xs
    written_sent c [] p = tt
    written_sent c (x ∷ xs) (d, v, p) = let (l, k, e) = counted x v in (k, rw e at (written_sent d xs p))

    -- frames written one behind another show no gap
    pub no_gap_written : {c : ℕ} {e : Counter} (xs : List Passage) → Written c xs → Due e c → Read e xs → Each NoGap xs
    no_gap_written [] p due q = tt
    no_gap_written {c} (x ∷ xs) (d, v, p) due q = no_gap (x ∷ xs) (counted x v).0 (written_sent c (x ∷ xs) (d, v, p)) due q
