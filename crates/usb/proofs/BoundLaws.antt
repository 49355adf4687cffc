-- How long a streamed transfer is: what is passed over before a message is fewer than H bytes, and is paid for by the data packet that ends there.
use Prim.Native.Nat.{ℕ, suc, ◌+◌, ◌-◌, ◌*◌, ◌/◌, ◌%◌, ◌<◌, ◌≤◌}
use native.Mathlib.Omega.{arith}
use native.Mathlib.Nat.{zero-add, add-zero, mod-lt, div-add-mod', mul-div_cancel, mul-le-mul_left, lt_of_mul-lt-mul_right}
use mathlib.Core.Path.{◌≡◌, refl}
use mathlib.Core.Bool.{Bool, true, false, cond}
use mathlib.Core.List.{List, [], ◌∷◌}
use lib.ListN.{length}
use lib.Dec.{leb}
use borrow.Author.Tests.{leb-false}
use Rattle.packet.specs.Counter.{next}
use Rattle.usb.specs.declared.Setting.{Setting}
use Rattle.usb.specs.Setting.{H, W, whole, sound}
use Rattle.usb.specs.Writing.{permits, skipped, write}
use Rattle.usb.proofs.SettingLaws.{Good, good, into, cut_at}
use Rattle.usb.proofs.WrittenLaws.{write-length}

-- the messages' total
abbrev pub total : Setting → List (List ℕ) → ℕ
total s [] = 0
total s (b ∷ bs) = whole s (length b) + total s bs

div_mono : (m a b : ℕ) → 0 < m → a ≤ b → a / m ≤ b / m
div_mono m a b h l =
    let e : a / m * m < suc (b / m) * m = omega (arith, div-add-mod' a m, div-add-mod' b m, mod-lt b h) in
    let k : a / m < suc (b / m) = lt_of_mul-lt-mul_right m e in
    omega arith

module _ (s : Setting) (g : Good s) (fill : ℕ) (stream : s.packing ≡ 2) where
  -- the full data packets before place q
  abbrev full : ℕ → ℕ
  full q = q / s.datapacket

  skipped-is : (q n : ℕ) → skipped s q n ≡ cond (leb (q % s.datapacket + H s) s.datapacket) 0 (s.datapacket - q % s.datapacket)
  unfolding skipped permits
  skipped-is q n = rw stream

  paid : (q n : ℕ) → skipped s q n + (H s - 1) * full q ≤ (H s - 1) * full (q + skipped s q n)
  paid q n = rw (skipped-is q n) (at (leb (q % s.datapacket + H s) s.datapacket) refl)
    where
      m : ℕ
      m = s.datapacket

      at : (b : Bool) → leb (q % m + H s) m ≡ b → cond b 0 (m - q % m) + (H s - 1) * full q ≤ (H s - 1) * full (q + cond b 0 (m - q % m))
      at true e = rw (add-zero q) (omega arith)
      at false e =
          let c : 0 < m = omega (arith, g.cut) in
          let y : (q + (m - q % m)) / m ≡ suc (q / m) = rw (cut_at g q) (mul-div_cancel (suc (q / m)) c) in
          rw y (omega (arith, leb-false (q % m + H s) m e, into g q))

  bounded : (q c : ℕ) (bs : List (List ℕ))
      → q + length (write s fill false q c bs) + (H s - 1) * full q ≤ q + total s bs + (H s - 1) * full (q + length (write s fill false q c bs))
  bounded q c [] = unfold write in rw (add-zero q) (omega arith)
  bounded q c (b ∷ bs) =
      let i : ℕ = q + skipped s q (length b) + whole s (length b) in
      let cut : 0 < s.datapacket = omega (arith, g.cut) in
      let m : (H s - 1) * full (q + skipped s q (length b)) ≤ (H s - 1) * full i =
      mul-le-mul_left (H s - 1) (div_mono s.datapacket (q + skipped s q (length b)) i cut (omega arith)) in
      rw (write-length s g fill false q c b bs) (omega (arith, paid q (length b), m, bounded i (next (W s) c) bs))

-- without filling up, a streamed transfer is at most the messages' total plus H - 1 for each full data packet
pub stream_bound : (s : Setting) → sound s ≡ true → s.packing ≡ 2 → (fill c : ℕ) (bs : List (List ℕ))
    → length (write s fill false 0 c bs) ≤ total s bs + (H s - 1) * (length (write s fill false 0 c bs) / s.datapacket)
stream_bound s ok stream fill c bs = let e = simp zero-add at (bounded s (good s ok) fill stream 0 c bs) in omega arith
