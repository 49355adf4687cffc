-- Reading gives a list of packets exactly where the bytes are a frame of those packets.
use Prim.Native.Nat.{ℕ, zero, suc, ◌+◌, ◌%◌, ◌<◌, ◌≤◌}
use native.Mathlib.Omega.{arith}
use mathlib.Core.Path.{◌≡◌, refl}
use mathlib.Core.Bool.{Bool, true, false, cond, not, ◌||◌, or-true}
use mathlib.Core.List.{List}
use lib.ListN.{length, drop}
use lib.Dec.{ltb, eqb}
use borrow.Author.Tests.{ltb-true, ltb-false, eqb-true, eqb-false, lt-ltb, le-ltb, eq-eqb, ne_eqb}
use Rattle.layout.specs.Field.{says, Name.NAX}
use Rattle.layout.specs.Walk.{Step, Out, Forward, Ends, Step.done, Out.list, Out.refused, Ends.ends}
use Rattle.layout.proofs.WalkLaws.{walked, ended}
use Rattle.packet.specs.Message.{Msg}
use Rattle.packet.proofs.PacketsLaws.{Each}
use Rattle.packet.proofs.SeenLaws.{Shown, shown}
use Rattle.flexray.specs.declared.Setting.{Setting}
use Rattle.flexray.specs.Setting.{fields, H, sound}
use Rattle.flexray.specs.Layout.{Evened, Sized, Closed, Frame}
use Rattle.flexray.specs.Reading.{seen, step, ahead, judged}
use Rattle.flexray.proofs.AlignLaws.{start-behind}
use Rattle.flexray.proofs.SeenLaws.{Sees, Sees.is_none, Sees.is-past, Sees.is-packet}
use Rattle.flexray.proofs.SeenLaws.{Later, first, first_done, later, later_only}
use Rattle.flexray.proofs.WayLaws.{Reached, Reached.start_itself, Reached.packet-end, reached, leads}
use Rattle.flexray.proofs.FurtherLaws.{closed_none, none-closed}

---- The walk -------------------------------------------------------------------------------------------------------------------

module _ (s : Setting) (t : List ℕ) where
  moves : (q : ℕ) {none past v : Step Msg} {p n c : ℕ} → q ≤ p → Forward (length t) q none → Forward (length t) q past
      → Sees t none past p n c v → Forward (length t) q v
  moves q h a b (is_none z) = a
  moves q h a b (is-past z l) = b
  moves q h a b (is-packet z l) = (omega arith, l)

  pub forward : (q : ℕ) → Forward (length t) q (step s t q)
  forward zero = moves 0 (omega arith) tt tt (first s t)
  forward (suc q) = moves (suc q) (omega (arith, start-behind s.align (suc q))) tt tt (later s t (suc q) (omega arith))

  pub ahead-ends : {o : Out Msg} → ahead s t 0 ≡ o → Ends (step s t) 0 o
  unfolding ahead
  ahead-ends e = ended (step s t) (length t) forward e

  pub ends-ahead : {o : Out Msg} → Ends (step s t) 0 o → ahead s t 0 ≡ o
  unfolding ahead
  ends-ahead e = walked (step s t) (length t) forward e

---- What comes before the walk -------------------------------------------------------------------------------------------------

-- why a frame is judged as it is
pub data Judged (s : Setting) (t : List ℕ) : Out Msg → Type 0 where
  unsound : sound s ≡ false → Judged s t (refused 1 0)
  odd : sound s ≡ true → length t % 2 ≡ 1 → Judged s t (refused 8 0)
  long : sound s ≡ true → s.ceiling < length t → Judged s t (refused 8 0)
  short : sound s ≡ true → Evened s t → length t < H s + 1 → Judged s t (refused 6 0)
  other : sound s ≡ true → Evened s t → H s + 1 ≤ length t → (says NAX (fields s) t 0 ≡ s.node → ⊥) → Judged s t (refused 7 0)
  walks : {o : Out Msg} → sound s ≡ true → Sized s t → ahead s t 0 ≡ o → Judged s t o

module _ (s : Setting) (t : List ℕ) where
  pub judge : Judged s t (judged s t)
  unfolding judged
  judge =
      at (sound s) (eqb (length t % 2) 1) (ltb s.ceiling (length t)) (ltb (length t) (H s + 1)) (eqb (says NAX (fields s) t 0) s.node)
      refl refl refl refl refl
    where
      evened : eqb (length t % 2) 1 ≡ false → ltb s.ceiling (length t) ≡ false → Evened s t
      evened gb gc = record { even = omega (arith, eqb-false (length t % 2) 1 gb); most = ltb-false s.ceiling (length t) gc }

      sized : eqb (length t % 2) 1 ≡ false → ltb s.ceiling (length t) ≡ false → ltb (length t) (H s + 1) ≡ false
          → eqb (says NAX (fields s) t 0) s.node ≡ true → Sized s t
      sized gb gc gd ge =
          record {
            evened = evened gb gc;
            least = ltb-false (length t) (H s + 1) gd;
            nax = eqb-true (says NAX (fields s) t 0) s.node ge;
          }

      at : (a b c d e : Bool) → sound s ≡ a → eqb (length t % 2) 1 ≡ b → ltb s.ceiling (length t) ≡ c → ltb (length t) (H s + 1) ≡ d
          → eqb (says NAX (fields s) t 0) s.node ≡ e
          → Judged s t (cond (not a) (refused 1 0)
          (cond (b || c) (refused 8 0) (cond d (refused 6 0) (cond (not e) (refused 7 0) (ahead s t 0)))))
      at false b c d e ga gb gc gd ge = unsound ga
      at true true c d e ga gb gc gd ge = odd ga (eqb-true (length t % 2) 1 gb)
      at true false true d e ga gb gc gd ge = long ga (ltb-true s.ceiling (length t) gc)
      at true false false true e ga gb gc gd ge = short ga (evened gb gc) (ltb-true (length t) (H s + 1) gd)
      at true false false false false ga gb gc gd ge =
          other ga (evened gb gc) (ltb-false (length t) (H s + 1) gd) (eqb-false (says NAX (fields s) t 0) s.node ge)
      at true false false false true ga gb gc gd ge = walks ga (sized gb gc gd ge) refl

  of_length : length t % 2 ≡ 0 → length t ≤ s.ceiling → eqb (length t % 2) 1 || ltb s.ceiling (length t) ≡ false
  of_length a b = rw (ne_eqb (length t % 2) 1 (omega arith), le-ltb s.ceiling (length t) b)

  pub judged-is : {o : Out Msg} → Judged s t o → judged s t ≡ o
  unfolding judged
  judged-is (unsound e) = rw e
  judged-is (odd e h) = rw (e, eq-eqb (length t % 2) 1 h)
  judged-is (long e h) = rw (e, lt-ltb s.ceiling (length t) h, or-true)
  judged-is (short e v h) = rw (e, of_length v.even v.most, lt-ltb (length t) (H s + 1) h)
  judged-is (other e v h x) =
      rw (e, of_length v.even v.most, le-ltb (length t) (H s + 1) h, ne_eqb (says NAX (fields s) t 0) s.node x)
  judged-is (walks e z w) =
      rw (
        e,
        of_length z.evened.even z.evened.most,
        le-ltb (length t) (H s + 1) z.least,
        eq-eqb (says NAX (fields s) t 0) s.node z.nax,
      ) w

  framed : {ms : List Msg} → sound s ≡ true → Sized s t → Ends (step s t) 0 (list ms) → Frame s ms t
  framed e z (ends {k = k} {rs = ms} l d) = at (reached s t l) d
    where
      end : {k : ℕ} → Later s t k done → Closed s.align k (drop k t)
      end {k} (is_none y) = none-closed s.align t k y

      at : {k : ℕ} {ms : List Msg} → Reached s t k ms → step s t k ≡ done → Frame s ms t
      at start_itself d = absurd (first_done s t (rw d at (first s t)))
      at (packet-end {k = k} h l) d =
          record { setting = e; sized = z; end = k; left = drop k t; laid = l; closed = end (rw d at (later s t k h)) }

  pub read_sound : (ms : List Msg) → judged s t ≡ list ms → Frame s ms t
  read_sound ms e = at (rw e at judge)
    where
      at : Judged s t (list ms) → Frame s ms t
      at (walks e z w) = framed e z (ahead-ends s t w)

  pub read_complete : (ms : List Msg) → Frame s ms t → judged s t ≡ list ms
  read_complete ms f =
      let (l, c, h) = leads s t f.laid in
      let d : step s t f.end ≡ done = later_only s t f.end h (is_none (closed_none s.align t f.end f.closed c)) in
      judged-is (walks f.setting f.sized (ends-ahead s t (ends l d)))

  -- a packet's part, asked for by place and length, shows exactly the packet
  pub parts_show : (ms : List Msg) → Frame s ms t → Each (Shown t) ms
  parts_show ms f = shown t (seen s t) (leads s t f.laid).0
