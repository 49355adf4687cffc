-- Why a writer refuses, and why it accepts: by its setting and counter, by its lengths, and by its output.
use Rattle.std.proofs.Common.{◌≡◌, ℕ, ◌<◌, ◌≤◌, min, Bool, true, false, cond, not, ◌&&◌, ltb}
use Rattle.std.proofs.Common.{List, length, take, drop, refl, ap, arith, ltb-false, ltb-true, le-ltb, lt-ltb}
use mathlib.Core.Bool.{and-false}
use lib.Seq.{sets}
use Rattle.layout.specs.Walk.{Out, Out.list, Out.refused}
use Rattle.layout.proofs.TestLaws.{Tells, Tells.passes, Tells.fails, why_passed, why_failed, passed, failed}
use Rattle.packet.specs.Writing.{Writing, Writing as W}
use Rattle.packet.specs.Answer.{Answer, Ready, write_refused, few_bytes, stored, weighed, NoRoom, NoRoom.small, NoRoom.long}
use Rattle.packet.proofs.AnswerLaws.{Exact, Unsettled, Settled, Apart, refuses, accepts, why_refused, why_accepted, keeps, put_front, kept_behind}

apart-write : {next : ℕ} → Apart {R = ℕ} W.Refused (λ bs. W.Bytes (length bs) next)
apart-write = record { number = λ e. cc; place = λ e. cc; never = λ e. let z : ◌≡◌ {A = ℕ} 0 1 = cc in omega arith }

-- the test of the output, as what it tells
module _ (most : ℕ) (out bs : List ℕ) where
  abbrev Fits : Type 0
  Fits = length bs ≤ min (length out) most

  room_tells : Tells (NoRoom most (length out) (length bs)) Fits (few_bytes most out bs)
  room_tells = at (ltb (length out) (length bs)) (few_bytes most out bs) refl refl
    where
      at : (a b : Bool) → ltb (length out) (length bs) ≡ a → few_bytes most out bs ≡ b → Tells (NoRoom most (length out) (length bs)) Fits b
      at a false ga gb = fails (ltb-false (min (length out) most) (length bs) gb)
      at true true ga gb = passes (small (ltb-true (length out) (length bs) ga))
      at false true ga gb =
          passes (long (omega (arith, ltb-true (min (length out) most) (length bs) gb, ltb-false (length out) (length bs) ga)))

  no_room-fits : NoRoom most (length out) (length bs) → Fits → ⊥
  no_room-fits (small h) l = omega arith
  no_room-fits (long h) l = omega arith

-- a call: of `count` lengths the one at `index` is the first that does not fit; the bytes that it would write, of which there may be at most so many, and
-- the next counter
pub record Call : Type 0 where
  pub sound : Bool
  pub held : Bool
  pub mismatch : Bool
  pub index : ℕ
  pub count : ℕ
  pub bytes : List ℕ
  pub most : ℕ
  pub next : ℕ

abbrev composed : Call → Out ℕ
composed w = weighed w.sound w.held w.mismatch w.index w.count w.bytes

abbrev pub answer_of : Call → List ℕ → Answer Writing
answer_of w out = stored w.most w.next out (composed w)

-- what was weighed, each with its reason
data Weighed (w : Call) : Out ℕ → Type 0 where
  unsound : w.sound ≡ false → Weighed w (refused 1 0)
  over : w.held ≡ false → Weighed w (refused 1 0)
  mismatched : Ready w.sound w.held → w.mismatch ≡ true → Weighed w (refused 2 0)
  misfit : Ready w.sound w.held → w.mismatch ≡ false → w.index < w.count → Weighed w (refused 3 w.index)
  fit : Ready w.sound w.held → w.mismatch ≡ false → w.count ≤ w.index → Weighed w (list w.bytes)

weighs : (w : Call) {o : Out ℕ} → Weighed w o → composed w ≡ o
unfolding weighed
weighs w (Weighed.unsound e) = rw e
weighs w (Weighed.over e) = rw (e, and-false w.sound)
weighs w (Weighed.mismatched r e) = rw (r.setting, r.counter, e)
weighs w (Weighed.misfit r e l) = rw (r.setting, r.counter, e, lt-ltb w.index w.count l)
weighs w (Weighed.fit r e l) = rw (r.setting, r.counter, e, le-ltb w.index w.count l)

why_weighed : (w : Call) → Weighed w (composed w)
unfolding weighed
why_weighed w = at w.sound w.held w.mismatch (ltb w.index w.count) refl refl refl refl
  where
    at : (a b c d : Bool) → w.sound ≡ a → w.held ≡ b → w.mismatch ≡ c → ltb w.index w.count ≡ d
        → Weighed w (cond (not (a && b)) (refused 1 0) (cond c (refused 2 0) (cond d (refused 3 w.index) (list w.bytes))))
    at false b c d ga gb gc gd = Weighed.unsound ga
    at true false c d ga gb gc gd = Weighed.over gb
    at true true true d ga gb gc gd = Weighed.mismatched (record { setting = ga; counter = gb }) gc
    at true true false true ga gb gc gd = Weighed.misfit (record { setting = ga; counter = gb }) gc (ltb-true w.index w.count gd)
    at true true false false ga gb gc gd = Weighed.fit (record { setting = ga; counter = gb }) gc (ltb-false w.index w.count gd)

-- why a writer refuses with a number at a place
pub data Unwritten (w : Call) (room : ℕ) : ℕ → ℕ → Type 0 where
  unsound : w.sound ≡ false → Unwritten w room 1 0
  over : w.held ≡ false → Unwritten w room 1 0
  mismatched : Ready w.sound w.held → w.mismatch ≡ true → Unwritten w room 2 0
  misfit : Ready w.sound w.held → w.mismatch ≡ false → w.index < w.count → Unwritten w room 3 w.index
  crowded : Ready w.sound w.held → w.mismatch ≡ false → w.count ≤ w.index → NoRoom w.most room (length w.bytes)
      → Unwritten w room 4 0

-- a refusal has one of document 01's numbers
unwritten_number : {w : Call} {room n p : ℕ} → Unwritten w room n p → (0 < n) × (n ≤ 8)
unwritten_number (unsound e) = omega arith
unwritten_number (over e) = omega arith
unwritten_number (mismatched r e) = omega arith
unwritten_number (misfit r e l) = omega arith
unwritten_number (crowded r e l h) = omega arith

-- why it accepts, with k bytes and the next counter d
pub record Written (w : Call) (bytes k d : ℕ) : Type 0 where
  pub ready : Ready w.sound w.held
  pub matched : w.mismatch ≡ false
  pub fit : w.count ≤ w.index
  pub room : length w.bytes ≤ bytes
  pub most : length w.bytes ≤ w.most
  pub count : k ≡ length w.bytes
  pub counter : d ≡ w.next

module _ (w : Call) (out : List ℕ) where
  abbrev bytes_told : List ℕ → Writing
  bytes_told xs = W.Bytes (length xs) w.next

  not_settled : {n p : ℕ} → Unwritten w (length out) n p → Unsettled (few_bytes w.most out) n p (composed w)
  not_settled (unsound e) = rw (weighs w (Weighed.unsound e)) Unsettled.judged
  not_settled (over e) = rw (weighs w (Weighed.over e)) Unsettled.judged
  not_settled (mismatched r e) = rw (weighs w (Weighed.mismatched r e)) Unsettled.judged
  not_settled (misfit r e l) = rw (weighs w (Weighed.misfit r e l)) Unsettled.judged
  not_settled (crowded r e l h) =
      rw (weighs w (Weighed.fit r e l)) (Unsettled.crowded (passed (no_room-fits w.most out w.bytes) (room_tells w.most out w.bytes) h))

  pub unwritten : {n p : ℕ} → Unwritten w (length out) n p → answer_of w out ≡ write_refused out n p
  unwritten u = refuses W.Refused bytes_told (few_bytes w.most out) (λ xs. xs) out (not_settled u)

  why_unwritten : {n p : ℕ} → (answer_of w out).answer ≡ W.Refused n p → Unwritten w (length out) n p
  why_unwritten e = at (why_weighed w) (why_refused W.Refused bytes_told (few_bytes w.most out) (λ xs. xs) out apart-write (composed w) e)
    where
      at : {n p : ℕ} {o : Out ℕ} → Weighed w o → Unsettled (few_bytes w.most out) n p o → Unwritten w (length out) n p
      at (Weighed.unsound e) Unsettled.judged = unsound e
      at (Weighed.over e) Unsettled.judged = over e
      at (Weighed.mismatched r e) Unsettled.judged = mismatched r e
      at (Weighed.misfit r e l) Unsettled.judged = misfit r e l
      at (Weighed.fit r e l) (Unsettled.crowded h) = crowded r e l (why_passed (room_tells w.most out w.bytes) h)

  pub why_written : {k d : ℕ} → (answer_of w out).answer ≡ W.Bytes k d → Written w (length out) k d
  why_written {k} {d} e =
      at (why_weighed w) (why_accepted W.Refused bytes_told (few_bytes w.most out) (λ xs. xs) out apart-write (composed w) never e)
    where
      never : (n p : ℕ) → W.Refused n p ≡ W.Bytes k d → ⊥
      never n p e = let z : ◌≡◌ {A = ℕ} 0 1 = cc in omega arith

      refused_never : {n p : ℕ} → Settled bytes_told (few_bytes w.most out) (W.Bytes k d) (refused n p) → Written w (length out) k d
      refused_never x = let j = x.judged in let z : ◌≡◌ {A = ℕ} 0 1 = cc in absurd (omega arith)

      at : {o : Out ℕ} → Weighed w o → Settled bytes_told (few_bytes w.most out) (W.Bytes k d) o → Written w (length out) k d
      at (Weighed.unsound e) x = refused_never x
      at (Weighed.over e) x = refused_never x
      at (Weighed.mismatched r e) x = refused_never x
      at (Weighed.misfit r e l) x = refused_never x
      at (Weighed.fit r e l) x =
          let j : ◌≡◌ {A = Out ℕ} (list w.bytes) (list x.list) = x.judged in
          let y : w.bytes ≡ x.list = cc in
          let h : length w.bytes ≤ min (length out) w.most = why_failed (room_tells w.most out w.bytes) (rw (← y) at x.enough) in
          let told : W.Bytes k d ≡ W.Bytes (length x.list) w.next = x.told in
          let c : k ≡ length x.list = cc in
          record { ready = r; matched = e; fit = l; room = omega arith; most = omega arith; count = rw y c; counter = cc }

  pub wrote : {k d : ℕ} → Written w (length out) k d → answer_of w out ≡ record { answer = W.Bytes k d; lent = sets out 0 w.bytes }
  wrote x =
      let f = failed (no_room-fits w.most out w.bytes) (room_tells w.most out w.bytes) (omega (arith, x.room, x.most)) in
      rw (weighs w (Weighed.fit x.ready x.matched x.fit), x.count, x.counter)
      (accepts W.Refused bytes_told (few_bytes w.most out) (λ xs. xs) out w.bytes f)

  -- the bytes stand at the front of the output, and those behind are unchanged
  pub wrote_front : {k d : ℕ} → (answer_of w out).answer ≡ W.Bytes k d
      → (take k (answer_of w out).lent ≡ w.bytes) × (drop k (answer_of w out).lent ≡ drop k out)
  wrote_front e =
      let x = why_written e in
      (rw (wrote x, x.count) (put_front out w.bytes x.room), rw (wrote x, x.count) (kept_behind out w.bytes x.room))

  -- So a relation of refusals and one of acceptances are exact if every such reason gives them, and they give such a reason
  pub writer : {Refusal Accept : ℕ → ℕ → Type 0} → ((n p : ℕ) → Unwritten w (length out) n p → Refusal n p)
      → ((n p : ℕ) → Refusal n p → Unwritten w (length out) n p) → ((k d : ℕ) → Written w (length out) k d → Accept k d)
      → ((k d : ℕ) → Accept k d → Written w (length out) k d) → Exact W.Refused W.Bytes Refusal Accept out (answer_of w out)
  writer by to takes taken =
      record {
        refused = λ n p. (λ e. by n p (why_unwritten e), λ r. ap (λ x. x.answer) (unwritten (to n p r)));
        number = λ n p r. unwritten_number (to n p r);
        keeps = λ n p. keeps W.Refused bytes_told (few_bytes w.most out) (λ xs. xs) out apart-write (composed w);
        accepted = λ k d. (λ e. takes k d (why_written e), λ r. ap (λ x. x.answer) (wrote (taken k d r)));
      }
