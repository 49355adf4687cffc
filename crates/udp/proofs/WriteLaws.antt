-- What the writer writes is laid out as the packets that were given, with their counters; and each refusal, with its number and place, is given exactly when
-- document 01's table and Ask 3 say so.
use Prim.Native.Nat.{ℕ, zero, suc, ◌+◌, ◌*◌, ◌<◌}
use native.Mathlib.Omega.{arith}
use mathlib.Core.Path.{◌≡◌, refl, ap, ◌∙◌}
use mathlib.Core.Bool.{Bool, true, false, ◌||◌}
use mathlib.Core.List.{List, [], ◌∷◌, append_assoc, map}
use lib.ListN.{length, get_or, take, drop, length-append, length-take, length-drop}
use lib.Dec.{ltb, eqb}
use borrow.Author.Tests.{ltb-true, ltb-false, eqb-true, eqb-false}
use Rattle.layout.specs.Field.{values, puts, says, Name.LEN, Name.CTR}
use Rattle.layout.proofs.FieldLaws.{length-puts, says-puts}
use Rattle.layout.proofs.TestLaws.{Tells, Tells.passes, Tells.fails}
use Rattle.packet.specs.Writing.{Writing as Writes}
use Rattle.packet.specs.Counter.{holds, next, later}
use Rattle.packet.specs.Message.{Msg}
use Rattle.packet.specs.Packets.{sum, packets}
use Rattle.packet.proofs.AnswerLaws.{Exact}
use Rattle.packet.proofs.CounterLaws.{held, next-holds}
use Rattle.packet.proofs.PacketsLaws.{Each}
use Rattle.packet.proofs.WriteTableLaws as T
use Rattle.packet.proofs.WriterLaws.{Call, wrote_front}
use Rattle.udp.specs.declared.Setting.{Setting}
use Rattle.udp.specs.Setting.{fields, H, W, most_datagram, sound}
use Rattle.udp.specs.Layout.{Message, Laid, Datagram}
use Rattle.udp.specs.Writing.{message_bytes, write, placed, misfit, composed, write_of}
use Rattle.udp.specs.Refusal.{Fit, Unfit, WriteRefusal, WriteAccept}
use Rattle.udp.proofs.SettingLaws.{head-size, len-width, ctr-width, Good, good}

---- One message ----------------------------------------------------------------------------------------------------------------

abbrev header : ℕ → List ℕ → List ℕ
header c b = puts (values 0 (length b) c) 0 fields

header-length : (c : ℕ) (b : List ℕ) → length (header c b) ≡ H
header-length c b = length-puts (values 0 (length b) c) 0 fields ∙ head-size

pub message-length : (c : ℕ) (b : List ℕ) → length (message_bytes c b) ≡ H + length b
message-length c b = length-append (header c b) b ∙ rw (header-length c b)

message-ok : {s : Setting} → Good s → (c : ℕ) (b : List ℕ) → Fit s (length b) → Message s (header c b) b
message-ok g c b f =
    record {
      header = header-length c b;
      len = says-puts (values 0 (length b) c) 0 LEN refl fields (omega (arith, len-width)) (rw len-width (omega (arith, f.most, g.most)));
      least = f.least;
      most = f.most;
    }

header-counter : (c : ℕ) (b : List ℕ) → holds W c ≡ true → says CTR fields (header c b) 0 ≡ c
header-counter c b v =
    says-puts (values 0 (length b) c) 0 CTR refl fields (omega (arith, ctr-width)) (rw ctr-width (held W c v (omega arith)))

---- All messages ---------------------------------------------------------------------------------------------------------------

-- a datagram has four bytes for each packet, and the packets' own
pub write-length : (c : ℕ) (ns bs : List ℕ) → sum ns ≡ length bs → length (write c (packets ns bs)) ≡ H * length ns + sum ns
unfolding packets write
write-length c [] bs e = omega arith
write-length c (n ∷ ns) bs e =
    let b : List ℕ = take n bs in
    let z : length b ≡ n = rw length-take (omega arith) in
    let d : sum ns ≡ length (drop n bs) = rw length-drop (omega arith) in
    let l = length-append (message_bytes c b) (write (next W c) (packets ns (drop n bs))) in
    omega (arith, message-length c b, write-length (next W c) ns (drop n bs) d)

-- the list from place q on, up to where the datagram ends
laid_out : {s : Setting} → Good s → (q c p : ℕ) (bs : List (List ℕ)) → Each (λ b. Fit s (length b)) bs → holds W c ≡ true
    → p ≡ q + length (write c bs) → Laid s p [] q (placed q c bs) (write c bs)
unfolding write placed
laid_out g q c p [] f v d = let j : q ≡ p = omega arith in rw j Laid.here
laid_out {s} g q c p (b ∷ bs) f v d =
    let h : List ℕ = header c b in
    let r : List ℕ = write (next W c) bs in
    let ms : List Msg = placed (q + (H + length b)) (next W c) bs in
    let lh : length h ≡ H = header-length c b in
    let e : p ≡ q + (H + length b) + length r = omega (arith, length-append (message_bytes c b) r, message-length c b) in
    let on = laid_out g (q + (H + length b)) (next W c) p bs f.1 (next-holds W c v) e in
    let i : ◌≡◌ {A = Msg} (record { at = q + length h; packet = b; ctr = says CTR fields h 0 }) (record { at = q + H; packet = b; ctr = c }) =
    rw (lh, header-counter c b v) in
    rw (append_assoc h b r, ← i) (Laid.message {q = q} h b {bs = r} {ms = ms} (message-ok g c b f.0) (rw lh on))

-- its packets are those that were given
pub placed-packets : (q c : ℕ) (bs : List (List ℕ)) → map (λ m. m.packet) (placed q c bs) ≡ bs
unfolding placed
placed-packets q c [] = refl
placed-packets q c (b ∷ bs) = ap (λ l. b ∷ l) (placed-packets (q + (H + length b)) (next W c) bs)

-- with their counters, one after another from the first
pub placed-counter : (d : Msg) (q c : ℕ) (bs : List (List ℕ)) (i : ℕ) → i < length bs → (get_or (placed q c bs) i d).ctr ≡ later W i c
unfolding placed later
placed-counter d q c [] i l = absurd (omega arith)
placed-counter d q c (b ∷ bs) zero l = refl
placed-counter d q c (b ∷ bs) (suc i) l = placed-counter d (q + (H + length b)) (next W c) bs i (omega arith)

---- Lengths that fit -----------------------------------------------------------------------------------------------------------

module _ (s : Setting) (n : ℕ) where
  misfit_tells : Tells (Unfit s n) (Fit s n) (misfit s n)
  unfolding misfit
  misfit_tells = at (eqb n 0) (ltb s.longest n) refl refl
    where
      at : (a b : Bool) → eqb n 0 ≡ a → ltb s.longest n ≡ b → Tells (Unfit s n) (Fit s n) (a || b)
      at true b ga gb = passes (Unfit.empty (eqb-true n 0 ga))
      at false true ga gb = passes (Unfit.over (ltb-true s.longest n gb))
      at false false ga gb = fails (record { least = omega (arith, eqb-false n 0 ga); most = ltb-false s.longest n gb })

  not_both_fit : Unfit s n → Fit s n → ⊥
  not_both_fit (Unfit.empty e) f = omega (arith, f.least)
  not_both_fit (Unfit.over l) f = omega (arith, f.most)

---- What was written -----------------------------------------------------------------------------------------------------------

module _ (s : Setting) (bs ns : List ℕ) (c : ℕ) (out : List ℕ) where
  abbrev made : List ℕ
  made = write c (packets ns bs)

  -- the call as every writer weighs it
  abbrev call : Call
  call = T.call (sound s) W most_datagram (misfit s) (misfit_tells s) bs ns c made out

  -- what stands at the front of the output is what was composed, and the rest of the output is as it was
  pub written_front : (k d : ℕ) → (write_of s bs ns c out).answer ≡ Writes.Bytes k d
      → (take k (write_of s bs ns c out).lent ≡ made) × (drop k (write_of s bs ns c out).lent ≡ drop k out)
  unfolding write_of composed
  written_front k d e = wrote_front call out e

  -- refused exactly when, and accepted exactly when
  pub write_exact : Exact Writes.Refused Writes.Bytes (WriteRefusal s bs ns c (length out)) (WriteAccept s bs ns c (length out)) out (write_of s bs ns c out)
  unfolding write_of composed
  write_exact = T.write_exact (sound s) W most_datagram (misfit s) (misfit_tells s) bs ns c made out (not_both_fit s)

  -- what the writer makes is laid out as its packets, with their counters
  pub written_laid : (k d : ℕ) → (write_of s bs ns c out).answer ≡ Writes.Bytes k d
      → Datagram s (placed 0 c (packets ns bs)) (take k (write_of s bs ns c out).lent)
  written_laid k d e =
      let a : WriteAccept s bs ns c (length out) k d = (write_exact.accepted k d).0 e in
      let fits = T.packets-fit (sound s) W most_datagram (misfit s) (misfit_tells s) bs ns c made out a in
      let g = good s a.willing.setting in
      rw (written_front k d e).0
      (record {
        setting = a.willing.setting;
        long = a.short;
        laid = laid_out g 0 c (length made) (packets ns bs) fits a.willing.counter (omega arith);
      })
