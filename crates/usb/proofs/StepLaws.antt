-- What each verdict means, both ways: a view of the six tests.
use Prim.Native.Nat.{ℕ, ◌<◌, ◌≤◌}
use native.Mathlib.Omega.{arith}
use mathlib.Core.Path.{◌≡◌, refl}
use mathlib.Core.Bool.{Bool, true, false, ◌&&◌}
use lib.Dec.{ltb, eqb}
use borrow.Author.Tests.{ltb-true, ltb-false, eqb-true, eqb-false, lt-ltb, le-ltb, eq-eqb, ne_eqb}
use Rattle.layout.proofs.TestLaws.{and_left, and_right}
use Rattle.usb.specs.declared.Setting.{Setting}
use Rattle.usb.specs.Reading.{Verdict, Verdict.Stop, Verdict.TakeRest, Verdict.TakeMessage, Verdict.Refuse}
use Rattle.usb.specs.Setting.{whole}
use Rattle.usb.specs.Reading.{choose, room, judge}

-- something is left, and single packing is at the start of a data packet
pub record Open (s : Setting) (o left : ℕ) : Type 0 where
  pub some : 0 < left
  pub first : s.packing ≡ 0 → o ≡ 0

pub data Judged (s : Setting) (o left n : ℕ) : Verdict → Type 0 where
  gone : left ≡ 0 → Judged s o left n Stop
  behind : 0 < left → s.packing ≡ 0 → 0 < o → Judged s o left n TakeRest
  bare : 0 < left → 0 < s.packing → n ≡ 0 → Judged s o left n TakeRest
  none : 0 < left → s.packing ≡ 0 → o ≡ 0 → n ≡ 0 → Judged s o left n (Refuse 6)
  over : Open s o left → 0 < n → s.longest < n → Judged s o left n (Refuse 3)
  past : Open s o left → 0 < n → n ≤ s.longest → room s o left < whole s n → Judged s o left n (Refuse 5)
  message : Open s o left → 0 < n → n ≤ s.longest → whole s n ≤ room s o left → Judged s o left n TakeMessage

module _ (s : Setting) (o left n : ℕ) where
  opened : eqb left 0 ≡ false → eqb s.packing 0 && ltb 0 o ≡ false → Open s o left
  opened ga gb =
      record {
        some = omega (arith, eqb-false left 0 ga);
        first = λ z. omega (arith, ltb-false 0 o (rw (eq-eqb s.packing 0 z) at gb));
      }

  pub judged : Judged s o left n (judge s o left n)
  unfolding judge
  judged =
      at (eqb left 0) (eqb s.packing 0 && ltb 0 o) (eqb n 0) (eqb s.packing 0) (ltb s.longest n) (ltb (room s o left) (whole s n))
      refl refl refl refl refl refl
    where
      at : (a b c d e f : Bool) → eqb left 0 ≡ a → eqb s.packing 0 && ltb 0 o ≡ b → eqb n 0 ≡ c → eqb s.packing 0 ≡ d
          → ltb s.longest n ≡ e → ltb (room s o left) (whole s n) ≡ f → Judged s o left n (choose a b c d e f)
      at true b c d e f ga gb gc gd ge gf = gone (eqb-true left 0 ga)
      at false true c d e f ga gb gc gd ge gf =
          behind (omega (arith, eqb-false left 0 ga)) (eqb-true s.packing 0 (search and_left)) (ltb-true 0 o (search (and_left, and_right)))
      at false false true true e f ga gb gc gd ge gf =
          let z : s.packing ≡ 0 = eqb-true s.packing 0 gd in
          none (opened ga gb).some z ((opened ga gb).first z) (eqb-true n 0 gc)
      at false false true false e f ga gb gc gd ge gf =
          bare (opened ga gb).some (omega (arith, eqb-false s.packing 0 gd)) (eqb-true n 0 gc)
      at false false false d true f ga gb gc gd ge gf =
          over (opened ga gb) (omega (arith, eqb-false n 0 gc)) (ltb-true s.longest n ge)
      at false false false d false true ga gb gc gd ge gf =
          past (opened ga gb) (omega (arith, eqb-false n 0 gc)) (ltb-false s.longest n ge) (ltb-true (room s o left) (whole s n) gf)
      at false false false d false false ga gb gc gd ge gf =
          message (opened ga gb) (omega (arith, eqb-false n 0 gc)) (ltb-false s.longest n ge) (ltb-false (room s o left) (whole s n) gf)

  -- the tests before LEN, where something stands
  pub front : Open s o left → eqb s.packing 0 && ltb 0 o ≡ false
  front h = at (eqb s.packing 0) refl
    where
      at : (b : Bool) → eqb s.packing 0 ≡ b → b && ltb 0 o ≡ false
      at true e = le-ltb 0 o (omega (arith, h.first (eqb-true s.packing 0 e)))
      at false e = refl

  pub decided : {v : Verdict} → Judged s o left n v → judge s o left n ≡ v
  unfolding judge
  decided (gone e) = rw (eq-eqb left 0 e)
  decided (behind l p h) = rw (ne_eqb left 0 (omega arith), eq-eqb s.packing 0 p, lt-ltb 0 o h)
  decided (bare l p h) = rw (ne_eqb left 0 (omega arith), ne_eqb s.packing 0 (omega arith), eq-eqb n 0 h)
  decided (none l p z h) = rw (ne_eqb left 0 (omega arith), eq-eqb s.packing 0 p, le-ltb 0 o (omega arith), eq-eqb n 0 h)
  decided (over h z x) =
      let l : 0 < left = h.some in
      rw (ne_eqb left 0 (omega arith), front h, ne_eqb n 0 (omega arith), lt-ltb s.longest n x)
  decided (past h z x f) =
      let l : 0 < left = h.some in
      rw (ne_eqb left 0 (omega arith), front h, ne_eqb n 0 (omega arith), le-ltb s.longest n x, lt-ltb (room s o left) (whole s n) f)
  decided (message h z x f) =
      let l : 0 < left = h.some in
      rw (ne_eqb left 0 (omega arith), front h, ne_eqb n 0 (omega arith), le-ltb s.longest n x, le-ltb (room s o left) (whole s n) f)
