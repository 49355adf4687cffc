-- Where each packet has a header of its own, a write is refused exactly where document 01's table says so, and accepted exactly where nothing is refused:
-- once for USB and UDP, from what a transport shows of its lengths.
use Rattle.std.proofs.Common.{◌≡◌, ℕ, Bool, List, length, arith}
use Rattle.layout.proofs.TestLaws.{Tells, why_passed, why_failed, passed, failed}
use Rattle.packet.specs.Writing.{Writing as W}
use Rattle.packet.specs.Answer.{stored, weighed}
use Rattle.packet.specs.Counter.{holds, later}
use Rattle.packet.specs.Packets.{packets, mismatched, first}
use Rattle.packet.specs.Refusal.{WriteRefusal, WriteAccept}
use Rattle.packet.proofs.AnswerLaws.{Exact}
use Rattle.packet.proofs.CounterLaws.{exceeds, not_held}
use Rattle.packet.proofs.PacketsLaws.{Each, each, each_length, packets_lengths, mismatch_tells, not_both}
use Rattle.packet.proofs.PacketsLaws.{fit-before, unfit-there, index_is, index_none}
use Rattle.packet.proofs.WriterLaws.{Call, Unwritten, Written, writer}

-- a call that would write these bytes; `misfit` tells the lengths that fit from those that do not
module _ (sound : Bool) (w most : ℕ) {Fit Unfit : ℕ → Type 0} (misfit : ℕ → Bool) (tells : (n : ℕ) → Tells (Unfit n) (Fit n) (misfit n))
    (bs ns : List ℕ) (c : ℕ) (made out : List ℕ) where
  abbrev index : ℕ
  index = first misfit ns

  abbrev pub call : Call
  call =
      record {
        sound = sound;
        held = holds w c;
        mismatch = mismatched ns bs;
        index = index;
        count = length ns;
        bytes = made;
        most = most;
        next = later w (length ns) c;
      }

  abbrev Refusal : ℕ → ℕ → Type 0
  Refusal = WriteRefusal sound w most Fit Unfit (length made) bs ns c (length out)

  abbrev Accept : ℕ → ℕ → Type 0
  Accept = WriteAccept sound w most Fit (length made) bs ns c (length out)

  accepts : {k d : ℕ} → Written call (length out) k d → Accept k d
  accepts x =
      record {
        willing = x.ready;
        matched = why_failed (mismatch_tells ns bs) x.matched;
        fit = fit-before misfit tells 0 ns (length ns) x.fit;
        room = x.room;
        short = x.most;
        count = x.count;
        next = x.counter;
      }

  -- each packet of what is accepted fits
  pub packets-fit : {k d : ℕ} → Accept k d → Each (λ b. Fit (length b)) (packets ns bs)
  packets-fit x = each_length Fit (packets ns bs) (rw (packets_lengths ns bs x.matched.same) (each Fit 0 ns x.fit))

  by-table : {n p : ℕ} → Unwritten call (length out) n p → Refusal n p
  by-table (Unwritten.unsound e) = WriteRefusal.setting e
  by-table (Unwritten.over e) = WriteRefusal.counter (exceeds w c e)
  by-table (Unwritten.mismatched r m) = WriteRefusal.mismatch r (why_passed (mismatch_tells ns bs) m)
  by-table (Unwritten.misfit r m l) =
      WriteRefusal.unfit r (why_failed (mismatch_tells ns bs) m) l (fit-before misfit tells 0 ns index (omega arith)) (unfit-there misfit tells 0 ns l)
  by-table (Unwritten.crowded r m l h) =
      WriteRefusal.room r (why_failed (mismatch_tells ns bs) m) (fit-before misfit tells 0 ns (length ns) l) h

  module _ (never : (n : ℕ) → Unfit n → Fit n → ⊥) where
    to-table : {n p : ℕ} → Refusal n p → Unwritten call (length out) n p
    to-table (WriteRefusal.setting e) = Unwritten.unsound e
    to-table (WriteRefusal.counter x) = Unwritten.over (not_held w c x)
    to-table (WriteRefusal.mismatch r m) = Unwritten.mismatched r (passed (not_both ns bs) (mismatch_tells ns bs) m)
    to-table (WriteRefusal.unfit {i = i} r m l f u) =
        let x : index ≡ i = index_is misfit tells 0 ns never i l f u in
        rw (← x) (Unwritten.misfit r (failed (not_both ns bs) (mismatch_tells ns bs) m) (omega arith))
    to-table (WriteRefusal.room r m f h) =
        let x : index ≡ length ns = index_none misfit tells 0 ns never f in
        Unwritten.crowded r (failed (not_both ns bs) (mismatch_tells ns bs) m) (omega arith) h

    taken : {k d : ℕ} → Accept k d → Written call (length out) k d
    taken x =
        let i : index ≡ length ns = index_none misfit tells 0 ns never x.fit in
        record {
          ready = x.willing;
          matched = failed (not_both ns bs) (mismatch_tells ns bs) x.matched;
          fit = omega arith;
          room = x.room;
          most = x.short;
          count = x.count;
          counter = x.next;
        }

    pub write_exact : Exact W.Refused W.Bytes Refusal Accept out
        (stored most (later w (length ns) c) out (weighed sound (holds w c) (mismatched ns bs) (first misfit ns) (length ns) made))
    write_exact = writer call out (λ n p. by-table) (λ n p. to-table) (λ k d. accepts) (λ k d. taken)
