-- What the writer writes is laid out as the packets that were given; and each refusal, with its number and place, is given exactly when document 01's
-- table says so.
use Prim.Native.Nat.{ℕ, ◌<◌, ◌≤◌}
use native.Mathlib.Omega.{arith}
use mathlib.Core.Path.{◌≡◌, refl}
use mathlib.Core.Bool.{Bool, true, false, ◌&&◌, ◌||◌}
use mathlib.Core.List.{List}
use lib.ListN.{length, take, drop}
use lib.Dec.{ltb, eqb}
use borrow.Author.Tests.{ltb-true, ltb-false, eqb-true, eqb-false}
use Rattle.layout.proofs.TestLaws.{Tells, Tells.passes, Tells.fails}
use Rattle.packet.specs.Writing.{Writing as Writes}
use Rattle.packet.specs.Limit.{most_bytes}
use Rattle.packet.specs.Packets.{packets}
use Rattle.packet.proofs.AnswerLaws.{Exact}
use Rattle.packet.proofs.WriteTableLaws as T
use Rattle.packet.proofs.WriterLaws.{Call, wrote_front}
use Rattle.usb.specs.declared.Setting.{Setting}
use Rattle.usb.specs.Setting.{W, whole, sound}
use Rattle.usb.specs.Layout.{Transfer}
use Rattle.usb.specs.Writing.{write, placed, misfit, composed, write_of}
use Rattle.usb.specs.Refusal.{Fit, Unfit, WriteRefusal, WriteAccept}
use Rattle.usb.proofs.SettingLaws.{good}
use Rattle.usb.proofs.WrittenLaws.{laid_out}

---- Lengths that fit -----------------------------------------------------------------------------------------------------------

module _ (s : Setting) (n : ℕ) where
  misfit_tells : Tells (Unfit s n) (Fit s n) (misfit s n)
  unfolding misfit
  misfit_tells = at (eqb n 0) (ltb s.longest n) (ltb s.packing 2) (ltb s.datapacket (whole s n)) refl refl refl refl
    where
      fitting : eqb n 0 ≡ false → ltb s.longest n ≡ false → (s.packing < 2 → whole s n ≤ s.datapacket) → Fit s n
      fitting ga gb h = record { least = omega (arith, eqb-false n 0 ga); most = ltb-false s.longest n gb; within = h }

      at : (a b c d : Bool) → eqb n 0 ≡ a → ltb s.longest n ≡ b → ltb s.packing 2 ≡ c → ltb s.datapacket (whole s n) ≡ d
          → Tells (Unfit s n) (Fit s n) (a || b || (c && d))
      at true b c d ga gb gc gd = passes (Unfit.empty (eqb-true n 0 ga))
      at false true c d ga gb gc gd = passes (Unfit.over (ltb-true s.longest n gb))
      at false false true true ga gb gc gd = passes (Unfit.wide (ltb-true s.packing 2 gc) (ltb-true s.datapacket (whole s n) gd))
      at false false true false ga gb gc gd = fails (fitting ga gb (λ z. ltb-false s.datapacket (whole s n) gd))
      at false false false d ga gb gc gd = fails (fitting ga gb (λ z. absurd (omega (arith, ltb-false s.packing 2 gc))))

  not_both_fit : Unfit s n → Fit s n → ⊥
  not_both_fit (Unfit.empty e) f = omega (arith, f.least)
  not_both_fit (Unfit.over l) f = omega (arith, f.most)
  not_both_fit (Unfit.wide p l) f = omega (arith, f.within p)

---- What was written -----------------------------------------------------------------------------------------------------------

module _ (s : Setting) (bs ns : List ℕ) (c fill : ℕ) (full : Bool) (out : List ℕ) where
  abbrev made : List ℕ
  made = write s fill full 0 c (packets ns bs)

  -- the call as every writer weighs it
  abbrev call : Call
  call = T.call (sound s) (W s) most_bytes (misfit s) (misfit_tells s) bs ns c made out

  -- what stands at the front of the output is what was composed, and the rest of the output is as it was
  pub written_front : (k d : ℕ) → (write_of s bs ns c fill full out).answer ≡ Writes.Bytes k d
      → (take k (write_of s bs ns c fill full out).lent ≡ made) × (drop k (write_of s bs ns c fill full out).lent ≡ drop k out)
  unfolding write_of composed
  written_front k d e = wrote_front call out e

  -- refused exactly when, and accepted exactly when
  pub write_exact : Exact Writes.Refused Writes.Bytes (WriteRefusal s bs ns c fill full (length out)) (WriteAccept s bs ns c fill full (length out)) out
      (write_of s bs ns c fill full out)
  unfolding write_of composed
  write_exact = T.write_exact (sound s) (W s) most_bytes (misfit s) (misfit_tells s) bs ns c made out (not_both_fit s)

  -- what the writer makes is laid out as its packets, with their counters
  pub written_laid : (k d : ℕ) → (write_of s bs ns c fill full out).answer ≡ Writes.Bytes k d
      → Transfer s (placed s 0 c (packets ns bs)) (take k (write_of s bs ns c fill full out).lent)
  written_laid k d e =
      let a : WriteAccept s bs ns c fill full (length out) k d = (write_exact.accepted k d).0 e in
      let fits = T.packets-fit (sound s) (W s) most_bytes (misfit s) (misfit_tells s) bs ns c made out a in
      let g = good s a.willing.setting in
      rw (written_front k d e).0
      (record {
        setting = a.willing.setting;
        long = a.short;
        laid = laid_out s g fill full 0 c (length made) (packets ns bs) fits a.willing.counter (omega arith);
      })
