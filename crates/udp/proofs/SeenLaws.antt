-- What is seen at a place, both ways: a view of the five tests.
use Prim.Native.Nat.{ℕ, ◌+◌, ◌-◌, ◌<◌, ◌≤◌}
use native.Mathlib.Omega.{arith}
use mathlib.Core.Path.{◌≡◌, refl}
use mathlib.Core.Bool.{Bool, true, false, cond}
use mathlib.Core.List.{List}
use lib.ListN.{length}
use lib.Dec.{ltb, eqb}
use borrow.Author.Tests.{ltb-true, ltb-false, eqb-true, eqb-false, lt-ltb, le-ltb, eq-eqb, ne_eqb}
use Rattle.layout.specs.Field.{says, Name.LEN}
use Rattle.packet.specs.Seen.{Seen, Seen as S}
use Rattle.udp.specs.declared.Setting.{Setting}
use Rattle.udp.specs.Setting.{fields, H}
use Rattle.udp.specs.Reading.{message_at, seen}

module _ (s : Setting) (t : List ℕ) (q : ℕ) where
  -- LEN of a header at the place
  abbrev pub len : ℕ
  len = says LEN fields t q

  pub data View : Seen → Type 0 where
    gone : length t ≤ q → View S.Nothing
    few : q < length t → length t < q + H → View (S.Refused 5 q)
    zeroed : q + H ≤ length t → len ≡ 0 → View (S.Refused 6 q)
    over : q + H ≤ length t → s.longest < len → View (S.Refused 3 q)
    past : q + H ≤ length t → 0 < len → len ≤ s.longest → length t < q + (H + len) → View (S.Refused 5 q)
    message : 0 < len → len ≤ s.longest → q + (H + len) ≤ length t → View (message_at t q len)

  pub view : View (seen s t q)
  unfolding seen
  view = at (eqb left 0) (ltb left H) (eqb len 0) (ltb s.longest len) (ltb left (H + len)) refl refl refl refl refl
    where
      left : ℕ
      left = length t - q

      at : (a b c d e : Bool) → eqb left 0 ≡ a → ltb left H ≡ b → eqb len 0 ≡ c → ltb s.longest len ≡ d → ltb left (H + len) ≡ e
          → View (cond a S.Nothing (cond b (S.Refused 5 q) (cond c (S.Refused 6 q) (cond d (S.Refused 3 q) (cond e (S.Refused 5 q) (message_at t q len))))))
      at true b c d e ga gb gc gd ge = gone (omega (arith, eqb-true left 0 ga))
      at false true c d e ga gb gc gd ge = few (omega (arith, eqb-false left 0 ga)) (omega (arith, eqb-false left 0 ga, ltb-true left H gb))
      at false false true d e ga gb gc gd ge = zeroed (omega (arith, ltb-false left H gb)) (eqb-true len 0 gc)
      at false false false true e ga gb gc gd ge = over (omega (arith, ltb-false left H gb)) (ltb-true s.longest len gd)
      at false false false false true ga gb gc gd ge =
          past (omega (arith, ltb-false left H gb)) (omega (arith, eqb-false len 0 gc)) (ltb-false s.longest len gd)
          (omega (arith, ltb-false left H gb, ltb-true left (H + len) ge))
      at false false false false false ga gb gc gd ge =
          message (omega (arith, eqb-false len 0 gc)) (ltb-false s.longest len gd) (omega (arith, ltb-false left H gb, ltb-false left (H + len) ge))

  -- where a header fits, the first two tests fail
  headed : q + H ≤ length t → (eqb (length t - q) 0 ≡ false) × (ltb (length t - q) H ≡ false)
  headed h = (ne_eqb (length t - q) 0 (λ z. omega arith), le-ltb (length t - q) H (omega arith))

  pub decided : {v : Seen} → View v → seen s t q ≡ v
  unfolding seen
  decided (gone h) = rw (eq-eqb (length t - q) 0 (omega arith))
  decided (few l h) = rw (ne_eqb (length t - q) 0 (λ z. omega arith), lt-ltb (length t - q) H (omega arith))
  decided (zeroed h e) = rw ((headed h).0, (headed h).1, eq-eqb len 0 e)
  decided (over h l) = rw ((headed h).0, (headed h).1, ne_eqb len 0 (λ z. omega arith), lt-ltb s.longest len l)
  decided (past h z l x) =
      rw ((headed h).0, (headed h).1, ne_eqb len 0 (λ e. omega arith), le-ltb s.longest len l, lt-ltb (length t - q) (H + len) (omega arith))
  decided (message z l x) =
      let h : q + H ≤ length t = omega arith in
      rw ((headed h).0, (headed h).1, ne_eqb len 0 (λ e. omega arith), le-ltb s.longest len l, le-ltb (length t - q) (H + len) (omega arith))
