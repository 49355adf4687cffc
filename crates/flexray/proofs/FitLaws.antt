-- The writer's tests on the lengths it is given, as what they tell.
use Prim.Native.Nat.{ℕ, suc, ◌+◌}
use native.Mathlib.Omega.{arith}
use mathlib.Core.Path.{◌≡◌, refl, ap}
use mathlib.Core.Bool.{Bool, true, false, not, ◌&&◌, ◌||◌}
use mathlib.Core.List.{List, [], ◌∷◌}
use lib.ListN.{length}
use lib.Dec.{ltb, eqb}
use borrow.Author.Tests.{ltb-true, ltb-false, eqb-true, eqb-false}
use Rattle.layout.proofs.TestLaws.{Tells, Tells.passes, Tells.fails}
use Rattle.packet.specs.Packets.{mismatched, Matched, Mismatch}
use Rattle.packet.proofs.PacketsLaws.{mismatch_tells, not_both}
use Rattle.flexray.specs.declared.Setting.{Setting}
use Rattle.flexray.specs.Setting.{L, start}
use Rattle.flexray.specs.Writing.{Span, spans_behind, spans, misfit, miscounted}
use Rattle.flexray.specs.Refusal.{Fit, Unfit, Counted, Unfit.empty, Unfit.over}

---- One packet -----------------------------------------------------------------------------------------------------------------

module _ (s : Setting) (x : Span) where
  pub misfit_tells : Tells (Unfit s x) (Fit s x) (misfit s x)
  unfolding misfit
  misfit_tells = at (eqb x.long 0) (ltb s.ceiling x.end) refl refl
    where
      at : (a b : Bool) → eqb x.long 0 ≡ a → ltb s.ceiling x.end ≡ b → Tells (Unfit s x) (Fit s x) (a || b)
      at true b ga gb = passes (empty (eqb-true x.long 0 ga))
      at false true ga gb = passes (over (ltb-true s.ceiling x.end gb))
      at false false ga gb = fails (record { least = omega (arith, eqb-false x.long 0 ga); most = ltb-false s.ceiling x.end gb })

  pub not_both_fit : Unfit s x → Fit s x → ⊥
  not_both_fit (empty e) f = omega (arith, f.least)
  not_both_fit (over l) f = omega (arith, f.most)

---- How many -------------------------------------------------------------------------------------------------------------------

length-behind : (a e : ℕ) (ns : List ℕ) → length (spans_behind a e ns) ≡ length ns
unfolding spans_behind
length-behind a e [] = refl
length-behind a e (n ∷ ns) = ap suc (length-behind a (start a e + n) ns)

pub length-spans : (s : Setting) (ns : List ℕ) → length (spans s ns) ≡ length ns
unfolding spans
length-spans s [] = refl
length-spans s (n ∷ ns) = ap suc (length-behind s.align _ ns)

-- not as many lengths as a frame takes, or not those of the bytes
pub data Miscount (s : Setting) (ns bs : List ℕ) : Type 0 where
  mismatch : Mismatch ns bs → Miscount s ns bs
  none : ns ≡ [] → Miscount s ns bs
  several : L s ≡ 0 → (length ns ≡ 1 → ⊥) → Miscount s ns bs

-- as many lengths as a frame takes, and those of the bytes
pub record Rightly (s : Setting) (ns bs : List ℕ) : Type 0 where
  pub matched : Matched ns bs
  pub counted : Counted s ns

none_is : (ns : List ℕ) → length ns ≡ 0 → ns ≡ []
none_is [] e = refl
none_is (n ∷ ns) e = absurd (omega arith)

module _ (s : Setting) (ns bs : List ℕ) where
  pub count_tells : Tells (Miscount s ns bs) (Rightly s ns bs) (mismatched ns bs || miscounted s ns)
  unfolding miscounted
  count_tells = at (mismatch_tells ns bs) (eqb (length ns) 0) (eqb (L s) 0) (eqb (length ns) 1) refl refl refl
    where
      rightly : Matched ns bs → eqb (length ns) 0 ≡ false → (L s ≡ 0 → length ns ≡ 1) → Rightly s ns bs
      rightly m gb o = record { matched = m; counted = record { some = omega (arith, eqb-false (length ns) 0 gb); one = o } }

      at : {a : Bool} → Tells (Mismatch ns bs) (Matched ns bs) a → (b c d : Bool)
          → eqb (length ns) 0 ≡ b → eqb (L s) 0 ≡ c → eqb (length ns) 1 ≡ d
          → Tells (Miscount s ns bs) (Rightly s ns bs) (a || (b || (c && not d)))
      at (passes m) b c d gb gc gd = passes (mismatch m)
      at (fails m) true c d gb gc gd = passes (none (none_is ns (eqb-true (length ns) 0 gb)))
      at (fails m) false true false gb gc gd = passes (several (eqb-true (L s) 0 gc) (eqb-false (length ns) 1 gd))
      at (fails m) false true true gb gc gd = fails (rightly m gb (λ l. eqb-true (length ns) 1 gd))
      at (fails m) false false d gb gc gd = fails (rightly m gb (λ l. absurd (eqb-false (L s) 0 gc l)))

  pub not_both_count : Miscount s ns bs → Rightly s ns bs → ⊥
  not_both_count (mismatch m) r = not_both ns bs m r.matched
  not_both_count (none e) r = omega (arith, r.counted.some, ap length e)
  not_both_count (several l h) r = h (r.counted.one l)
