-- Where the writer puts things: each message at the first place that the layout permits, and the last data packet filled up where that is asked for.
use Prim.Native.Nat.{ℕ, suc, ◌+◌, ◌-◌, ◌*◌, ◌/◌, ◌%◌, ◌<◌, ◌≤◌}
use native.Mathlib.Omega.{arith}
use native.Mathlib.Nat.{zero-add, add-zero, zero-mod, add-mul, one-mul, div-add-mod', div-mul-le_self, div-eq_of_lt-le, mul-mod_left}
use mathlib.Core.Path.{◌≡◌, refl, ap}
use mathlib.Core.Bool.{Bool, true, false, cond, ◌&&◌}
use mathlib.Core.List.{List, [], ◌∷◌}
use lib.ListN.{length}
use lib.Dec.{leb, ltb, eqb}
use borrow.Author.Tests.{ltb-false, leb-false, eqb-true, eqb-false}
use Rattle.layout.specs.Multiple.{pad}
use Rattle.packet.specs.Message.{Msg}
use Rattle.packet.specs.Counter.{next}
use Rattle.usb.specs.declared.Setting.{Setting}
use Rattle.usb.specs.Setting.{H, W, whole, sound}
use Rattle.usb.specs.Layout.{Message}
use Rattle.usb.specs.Writing.{rest_bytes, permits, skipped, write, placed}
use Rattle.usb.proofs.SettingLaws.{Good, good, into, cut_at}
use Rattle.usb.proofs.LaidLaws.{message-whole}
use Rattle.usb.proofs.WrittenLaws.{rest-length, write-length}

module _ (s : Setting) (g : Good s) where
  -- a later place of the same data packet stands as much further into it
  further_in : (q p : ℕ) → q ≤ p → p < q + (s.datapacket - q % s.datapacket) → p % s.datapacket ≡ q % s.datapacket + (p - q)
  further_in q p l u =
      let m : ℕ = s.datapacket in
      let low : q / m * m ≤ p = omega (arith, div-mul-le_self q m) in
      let up : p < (q / m + 1) * m = omega (arith, add-mul (q / m) 1 m, one-mul m, div-add-mod' q m, into g q) in
      let e : p / m * m ≡ q / m * m = ap (λ k. k * m) (div-eq_of_lt-le m low up) in
      omega (arith, div-add-mod' q m, div-add-mod' p m)

  -- where a message is not permitted, none of that length stands in the rest of the data packet
  never_there : (q p : ℕ) (h b e : List ℕ) → q ≤ p → p < q + (s.datapacket - q % s.datapacket) → permits s q (length b) ≡ false
      → Message s p h b e → ⊥
  unfolding permits
  never_there q p h b e l u x m = at (eqb s.packing 0) (eqb s.packing 1) refl refl x
    where
      i : p % s.datapacket ≡ q % s.datapacket + (p - q)
      i = further_in q p l u

      at : (a c : Bool) → eqb s.packing 0 ≡ a → eqb s.packing 1 ≡ c
          → cond a (eqb (q % s.datapacket) 0) (leb (q % s.datapacket + cond c (whole s (length b)) (H s)) s.datapacket) ≡ false → ⊥
      at true c ga gc x = omega (arith, i, m.first (eqb-true s.packing 0 ga), eqb-false (q % s.datapacket) 0 x)
      at false true ga gc x =
          omega (
            arith,
            i,
            m.within (omega (arith, eqb-true s.packing 1 gc)),
            message-whole s g p h b e m,
            leb-false (q % s.datapacket + whole s (length b)) s.datapacket x,
          )
      at false false ga gc x = omega (arith, i, m.uncut, m.header, leb-false (q % s.datapacket + H s) s.datapacket x)

-- no message with that packet stands between the place reached and the place taken
pub first-place : (s : Setting) → sound s ≡ true → (q p : ℕ) (h b e : List ℕ) → q ≤ p → p < q + skipped s q (length b)
    → Message s p h b e → ⊥
unfolding skipped
first-place s ok q p h b e l u m = at (permits s q (length b)) refl u
  where
    at : (x : Bool) → permits s q (length b) ≡ x → p < q + cond x 0 (s.datapacket - q % s.datapacket) → ⊥
    at true x u = omega arith
    at false x u = never_there s (good s ok) q p h b e l u x m

-- each of these messages stands at the first place, from q on, where the layout permits one with its packet
abbrev pub AtFirst : Setting → ℕ → List Msg → Type 0
AtFirst s q [] = Unit {0}
AtFirst s q (m ∷ ms) =
    ((p : ℕ) (h e : List ℕ) → q ≤ p → p + H s < m.at → Message s p h m.packet e → ⊥)
    × AtFirst s (m.at + length m.packet + pad s.align (H s + length m.packet)) ms

-- those that are written do
pub placed_first : (s : Setting) → sound s ≡ true → (q c : ℕ) (bs : List (List ℕ)) → AtFirst s q (placed s q c bs)
unfolding placed
placed_first s ok q c [] = tt
placed_first s ok q c (b ∷ bs) =
    let a : ℕ = q + skipped s q (length b) in
    let n : a + H s + length b + pad s.align (H s + length b) ≡ a + whole s (length b) = omega arith in
    (λ p h e l u. first-place s ok q p h b e l (omega arith), rw n (placed_first s ok (a + whole s (length b)) (next (W s) c) bs))

---- Filling up -----------------------------------------------------------------------------------------------------------------

module _ (s : Setting) (g : Good s) (fill : ℕ) where
  filled : (q c : ℕ) (bs : List (List ℕ)) → (q + length (write s fill true q c bs)) % s.datapacket ≡ 0
  filled q c [] = unfold write in at (ltb 0 (q % s.datapacket)) refl
    where
      a : ℕ
      a = s.datapacket - q % s.datapacket

      at : (b : Bool) → ltb 0 (q % s.datapacket) ≡ b → (q + length (cond b (rest_bytes s fill a) [])) % s.datapacket ≡ 0
      at true e = rw (rest-length s g fill a, cut_at g q) (mul-mod_left (suc (q / s.datapacket)) s.datapacket)
      at false e = rw (add-zero q) (omega (arith, ltb-false 0 (q % s.datapacket) e))
  filled q c (b ∷ bs) =
      rw (write-length s g fill true q c b bs) (filled (q + skipped s q (length b) + whole s (length b)) (next (W s) c) bs)

-- filled up, a transfer ends with a data packet's end
pub filled_up : (s : Setting) → sound s ≡ true → (fill c : ℕ) (bs : List (List ℕ)) → length (write s fill true 0 c bs) % s.datapacket ≡ 0
filled_up s ok fill c bs = rw zero-add at (filled s (good s ok) fill 0 c bs)

-- an empty list gives no bytes, filled up or not
pub empty-none : (s : Setting) (fill c : ℕ) (full : Bool) → write s fill full 0 c [] ≡ []
unfolding write
empty-none s fill c full = rw (zero-mod s.datapacket) (at full)
  where
    at : (b : Bool) → cond (b && false) (rest_bytes s fill (s.datapacket - 0)) [] ≡ []
    at true = refl
    at false = refl
