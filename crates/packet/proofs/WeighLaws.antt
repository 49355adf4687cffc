-- What a writer weighs and what it answers, by each reason: once for every writer.
use Rattle.std.proofs.Common.{◌≡◌, ℕ, ◌<◌, ◌≤◌, Bool, true, false, cond, not, ◌&&◌, ◌||◌}
use Rattle.std.proofs.Common.{ltb, List, length, sym, refl, ap, ◌∙◌, arith, ltb-false, ltb-true}
use lib.Seq.{sets}
use Rattle.layout.specs.Walk.{Out.list, Out.refused}
use Rattle.layout.proofs.TestLaws.{or_left, or_right}
use Rattle.packet.specs.Writing.{Writing as W}
use Rattle.packet.specs.Answer.{Gives, Ready, write_refused, weighed, NoRoom, NoRoom.small, NoRoom.long}
use Rattle.packet.proofs.AnswerLaws.{gives}
use Rattle.packet.proofs.WriterLaws.{Unwritten, Written, unwritten, wrote}
pub use Rattle.packet.proofs.WriterLaws.{Call, answer_of}

-- the test of the room
module _ (most room n : ℕ) where
  no_room : ltb room n || ltb most n ≡ true → NoRoom most room n
  no_room = at (ltb room n) (ltb most n) refl refl
    where
      at : (x y : Bool) → ltb room n ≡ x → ltb most n ≡ y → x || y ≡ true → NoRoom most room n
      at true y gx gy h = small (ltb-true room n gx)
      at false true gx gy h = long (ltb-true most n gy)
      at false false gx gy h = let z : ◌≡◌ {A = ℕ} 0 1 = cc in absurd (omega arith)

  pub has_room : ltb room n || ltb most n ≡ false → (n ≤ room) × (n ≤ most)
  has_room h = (ltb-false room n (or_left (ltb room n) (ltb most n) h), ltb-false most n (or_right (ltb room n) (ltb most n) h))

module _ (w : Call) (out : List ℕ) where
  pub unsound : w.sound ≡ false → answer_of w out ≡ write_refused out 1 0
  unsound e = unwritten w out (Unwritten.unsound e)

  pub over : w.held ≡ false → answer_of w out ≡ write_refused out 1 0
  over e = unwritten w out (Unwritten.over e)

  module _ (k : Ready w.sound w.held) where
    pub unmatched : w.mismatch ≡ true → answer_of w out ≡ write_refused out 2 0
    unmatched e = unwritten w out (Unwritten.mismatched k e)

    module _ (m : w.mismatch ≡ false) where
      pub unfit : {i : ℕ} → w.index ≡ i → i < w.count → answer_of w out ≡ write_refused out 3 i
      unfit e l = unwritten w out (Unwritten.misfit k m (omega arith)) ∙ ap (write_refused out 3) e

      module _ (f : w.index ≡ w.count) {end : ℕ} (long : length w.bytes ≡ end) where
        pub crowded : ltb (length out) end || ltb w.most end ≡ true → answer_of w out ≡ write_refused out 4 0
        crowded h = unwritten w out (Unwritten.crowded k m (omega arith) (rw long (no_room w.most (length out) end h)))

        pub written : end ≤ length out → end ≤ w.most → {new : List ℕ} {r : ℕ} → new ≡ sets out 0 w.bytes → r ≡ w.next
            → Gives (answer_of w out) (W.Bytes end r) new
        written a b {new} {r} x n =
            let v : Written w (length out) end r =
            record { ready = k; matched = m; fit = omega arith; room = omega arith; most = omega arith; count = sym long; counter = n } in
            gives (wrote w out v ∙ rw x)

-- what is weighed hangs on the bytes only where the lengths are those of the packets, and fit
pub weighed-same : (sound held mismatch : Bool) (i n : ℕ) {xs ys : List ℕ} → (mismatch ≡ false → n ≤ i → xs ≡ ys)
    → weighed sound held mismatch i n xs ≡ weighed sound held mismatch i n ys
unfolding weighed
weighed-same sound held true i n f = refl
weighed-same sound held false i n {xs} {ys} f = ap (cond (not (sound && held)) (refused 1 0)) (at (ltb i n) refl)
  where
    at : (b : Bool) → ltb i n ≡ b → cond b (refused 3 i) (list xs) ≡ cond b (refused 3 i) (list ys)
    at true g = refl
    at false g = ap list (f refl (ltb-false i n g))
