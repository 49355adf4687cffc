-- What is written is a frame of the packets given. The writer refuses exactly where a rule is broken.
use Prim.Native.Nat.{ℕ, suc, ◌+◌, ◌%◌, ◌<◌, ◌≤◌}
use native.Mathlib.Omega.{arith}
use mathlib.Core.Path.{◌≡◌, refl, sym, ap, ◌∙◌}
use mathlib.Core.Bool.{Bool, true, false, ◌||◌}
use mathlib.Core.List.{List, [], ◌∷◌, ◌++◌, append-nil, map}
use lib.ListN.{length, length-map, get_or, take, drop, replicate}
use borrow.Author.Tests.{eq-eqb, ne_eqb}
use Rattle.layout.proofs.TestLaws.{why_passed, why_failed, passed, failed}
use Rattle.packet.specs.Writing.{Writing as Writes}
use Rattle.packet.specs.Message.{Msg}
use Rattle.packet.specs.Counter.{holds, later}
use Rattle.packet.specs.Limit.{most_bytes}
use Rattle.packet.specs.Packets.{joined, packets, mismatched, Matched, first}
use Rattle.packet.proofs.AnswerLaws.{Exact}
use Rattle.packet.proofs.CounterLaws.{exceeds, not_held}
use Rattle.packet.proofs.PacketsLaws.{packets_lengths, length-packets, fit-before, unfit-there, index_is, index_none, each}
use Rattle.packet.proofs.WriterLaws.{Call, Unwritten, Written, why_written, wrote_front, writer}
use Rattle.flexray.specs.declared.Setting.{Setting}
use Rattle.flexray.specs.Setting.{H, L, W, moved, start, sound}
use Rattle.flexray.specs.Layout.{Frame}
use Rattle.flexray.specs.Writing.{spans, misfit, miscounted, frame, placed, placed_behind, shown, composed, write_of}
use Rattle.flexray.specs.Refusal.{Fit, Counted, Willing, no_span, span, WriteRefusal, WriteAccept}
use Rattle.flexray.proofs.FitLaws.{misfit_tells, not_both_fit, length-spans, Miscount, Rightly, count_tells, not_both_count}
use Rattle.flexray.proofs.FrameLaws.{Fits, evening_fill, written, frame_shortest}

---- The packets shown ----------------------------------------------------------------------------------------------------------

behind-packets : (a e : ℕ) (bs : List (List ℕ)) → map (λ m. m.packet) (placed_behind a e bs) ≡ bs
unfolding placed_behind
behind-packets a e [] = refl
behind-packets a e (b ∷ bs) = ap (λ l. b ∷ l) (behind-packets a (start a e + length b) bs)

module _ (s : Setting) (fill c : ℕ) where
  pub written_packets : 0 < L s → (ps : List (List ℕ)) → map (λ m. m.packet) (placed s fill c ps) ≡ ps
  unfolding placed
  written_packets l [] = refl
  written_packets l (b ∷ bs) =
      let p : shown s fill b ≡ b = rw (ne_eqb (L s) 0 (omega arith)) (append-nil b) in
      rw (p, behind-packets s.align (H s + length b) bs)

  -- without LEN the one packet is followed by the byte that evens the frame
  pub written_packet : L s ≡ 0 → (b : List ℕ)
      → map (λ m. m.packet) (placed s fill c (b ∷ [])) ≡ (b ++ replicate ((H s + length b) % 2) fill) ∷ []
  unfolding placed placed_behind
  written_packet l b = rw (eq-eqb (L s) 0 l, evening_fill s fill (H s + length b) l)

  -- the same by the joined bytes, which are the one packet's
  pub written_alone : L s ≡ 0 → (ps : List (List ℕ)) → length ps ≡ 1
      → map (λ m. m.packet) (placed s fill c ps) ≡ (joined ps ++ replicate ((H s + length (joined ps)) % 2) fill) ∷ []
  written_alone l [] n = absurd (omega arith)
  written_alone l (b ∷ []) n = rw (append-nil b) (written_packet l b)
  written_alone l (b ∷ d ∷ bs) n = absurd (omega arith)

-- the first carries the counter that was given
pub written_counter : (d : Msg) (s : Setting) (fill c : ℕ) (bs : List (List ℕ)) → 0 < length bs → 0 < W s
    → (get_or (placed s fill c bs) 0 d).ctr ≡ c
unfolding placed
written_counter d s fill c [] l w = absurd (omega arith)
written_counter d s fill c (b ∷ bs) l w = rw (ne_eqb (W s) 0 (omega arith))

pub placed-length : (s : Setting) (fill c : ℕ) (bs : List (List ℕ)) → length (placed s fill c bs) ≡ length bs
unfolding placed
placed-length s fill c [] = refl
placed-length s fill c (b ∷ bs) =
    let ms = placed_behind s.align (H s + length b) bs in
    ap suc (sym (length-map ms (λ m. m.packet)) ∙ ap length (behind-packets s.align (H s + length b) bs))

---- What was written -----------------------------------------------------------------------------------------------------------

module _ (s : Setting) (bs ns : List ℕ) (c fill : ℕ) (out : List ℕ) where
  abbrev wrong : Bool
  wrong = mismatched ns bs || miscounted s ns

  abbrev index : ℕ
  index = first (misfit s) (spans s ns)

  -- the call as every writer weighs it
  abbrev call : Call
  call =
      record {
        sound = sound s;
        held = holds (W s) c;
        mismatch = wrong;
        index = index;
        count = length ns;
        bytes = frame s fill c (packets ns bs);
        most = most_bytes;
        next = later (W s) (moved (length ns)) c;
      }

  accepted : {k d : ℕ} → (write_of s bs ns c fill out).answer ≡ Writes.Bytes k d → Written call (length out) k d
  unfolding write_of composed
  accepted e = why_written call out e

  -- what stands at the front of the output is what was composed, and the rest of the output is as it was
  pub written_front : (k d : ℕ) → (write_of s bs ns c fill out).answer ≡ Writes.Bytes k d
      → (take k (write_of s bs ns c fill out).lent ≡ frame s fill c (packets ns bs)) × (drop k (write_of s bs ns c fill out).lent ≡ drop k out)
  unfolding write_of composed
  written_front k d e = wrote_front call out e

  -- the spans before the least index that does not fit do
  fitting : (i : ℕ) → i ≤ index → (j : ℕ) → j < i → Fit s (span s ns j)
  fitting = fit-before (misfit s) (misfit_tells s) no_span (spans s ns)

  -- the packets of a call that is accepted: there are some, one without LEN, and they fit
  taken : {k d : ℕ} → (write_of s bs ns c fill out).answer ≡ Writes.Bytes k d
      → (0 < length (packets ns bs)) × (L s ≡ 0 → length (packets ns bs) ≡ 1) × Fits s (map length (packets ns bs))
  taken e =
      let w = accepted e in
      let r : Rightly s ns bs = why_failed (count_tells s ns bs) w.matched in
      let n : length (packets ns bs) ≡ length ns = length-packets ns bs in
      let f : Fits s ns = each (Fit s) no_span (spans s ns) (λ j l. fitting (length ns) w.fit j (rw (length-spans s ns) at l)) in
      (omega (arith, r.counted.some), λ l. n ∙ r.counted.one l, rw (packets_lengths ns bs r.matched.same) f)

  -- what the writer makes is a frame of its packets, with their counter
  pub written_laid : (k d : ℕ) → (write_of s bs ns c fill out).answer ≡ Writes.Bytes k d
      → Frame s (placed s fill c (packets ns bs)) (take k (write_of s bs ns c fill out).lent)
  written_laid k d e =
      let w = accepted e in
      let (some, one, fits) = taken e in
      rw (written_front k d e).0 (written s w.ready.setting fill c w.ready.counter (packets ns bs) some one fits)

  -- and no frame of those packets is shorter
  pub written_least : (k d : ℕ) → (write_of s bs ns c fill out).answer ≡ Writes.Bytes k d
      → (t : List ℕ) → Frame s (placed s fill c (packets ns bs)) t → k ≤ length t
  written_least k d e t f =
      let (some, one, fits) = taken e in
      rw (accepted e).count (frame_shortest s fill c (packets ns bs) t some one fits f)

  ---- Refused exactly when -------------------------------------------------------------------------------------------------------

  by_count : Willing s c → Miscount s ns bs → WriteRefusal s bs ns c fill (length out) 2 0
  by_count r (Miscount.mismatch m) = WriteRefusal.mismatch r m
  by_count r (Miscount.none e) = WriteRefusal.empty r e
  by_count r (Miscount.several l h) = WriteRefusal.several r l h

  by-table : {n p : ℕ} → Unwritten call (length out) n p → WriteRefusal s bs ns c fill (length out) n p
  by-table (Unwritten.unsound e) = WriteRefusal.setting e
  by-table (Unwritten.over e) = WriteRefusal.counter (exceeds (W s) c e)
  by-table (Unwritten.mismatched r m) = by_count r (why_passed (count_tells s ns bs) m)
  by-table (Unwritten.misfit r m l) =
      let y : Rightly s ns bs = why_failed (count_tells s ns bs) m in
      let u = unfit-there (misfit s) (misfit_tells s) no_span (spans s ns) (rw (length-spans s ns) l) in
      WriteRefusal.unfit r y.matched y.counted l (fitting index (omega arith)) u
  by-table (Unwritten.crowded r m l h) =
      let y : Rightly s ns bs = why_failed (count_tells s ns bs) m in
      WriteRefusal.room r y.matched y.counted (fitting (length ns) l) h

  wrong-is : Miscount s ns bs → wrong ≡ true
  wrong-is m = passed (not_both_count s ns bs) (count_tells s ns bs) m

  right_is : Matched ns bs → Counted s ns → wrong ≡ false
  right_is m k = failed (not_both_count s ns bs) (count_tells s ns bs) (record { matched = m; counted = k })

  -- where every span fits, none is the first that does not
  all_fit : ((j : ℕ) → j < length ns → Fit s (span s ns j)) → length ns ≤ index
  all_fit f =
      let n : length (spans s ns) ≡ length ns = length-spans s ns in
      let x : index ≡ length (spans s ns) = index_none (misfit s) (misfit_tells s) no_span (spans s ns) (not_both_fit s) (rw n f) in
      omega arith

  to-table : {n p : ℕ} → WriteRefusal s bs ns c fill (length out) n p → Unwritten call (length out) n p
  to-table (WriteRefusal.setting e) = Unwritten.unsound e
  to-table (WriteRefusal.counter x) = Unwritten.over (not_held (W s) c x)
  to-table (WriteRefusal.mismatch r m) = Unwritten.mismatched r (wrong-is (Miscount.mismatch m))
  to-table (WriteRefusal.empty r e) = Unwritten.mismatched r (wrong-is (Miscount.none e))
  to-table (WriteRefusal.several r l h) = Unwritten.mismatched r (wrong-is (Miscount.several l h))
  to-table (WriteRefusal.unfit {i = i} r m k l f u) =
      let x : index ≡ i =
      index_is (misfit s) (misfit_tells s) no_span (spans s ns) (not_both_fit s) i (rw (length-spans s ns) l) f u in
      rw (← x) (Unwritten.misfit r (right_is m k) (omega arith))
  to-table (WriteRefusal.room r m k f h) = Unwritten.crowded r (right_is m k) (all_fit f) h

  pub write_exact : Exact Writes.Refused Writes.Bytes (WriteRefusal s bs ns c fill (length out)) (WriteAccept s bs ns c fill (length out)) out
      (write_of s bs ns c fill out)
  unfolding write_of composed
  write_exact = writer call out (λ n p. by-table) (λ n p. to-table) takes answers
    where
      takes : (k d : ℕ) → Written call (length out) k d → WriteAccept s bs ns c fill (length out) k d
      takes k d w =
          let r : Rightly s ns bs = why_failed (count_tells s ns bs) w.matched in
          record {
            willing = w.ready;
            matched = r.matched;
            counted = r.counted;
            fit = fitting (length ns) w.fit;
            room = w.room;
            most = w.most;
            count = w.count;
            next = w.counter;
          }

      answers : (k d : ℕ) → WriteAccept s bs ns c fill (length out) k d → Written call (length out) k d
      answers k d w =
          record {
            ready = w.willing;
            matched = right_is w.matched w.counted;
            fit = all_fit w.fit;
            room = w.room;
            most = w.most;
            count = w.count;
            counter = w.next;
          }
