-- Digits only add to a number: what is beyond the most stays beyond it, so that a reader may stop counting there.
use Prim.Native.Nat.{ℕ, suc, ◌+◌, ◌*◌, ◌<◌, ◌≤◌}
use borrow.Author.Rules.{rules}
use native.Mathlib.Omega.{arith}
use native.Mathlib.Nat.{le-mul_of_pos_right}
use mathlib.Core.Path.{◌≡◌, refl, sym, ap, ◌∙◌}
use mathlib.Core.Bool.{Bool, true, false, cond, ◌&&◌}
use mathlib.Core.Option.{Option, none, some}
use mathlib.Core.List.{[], ◌∷◌}
use lib.ListN.{length, drop, get_or}
use lib.Seq.{drop-cons}
use lib.Dec.{leb}
use borrow.Author.Tests.{lt-leb}
use Rattle.keywords.specs.Tables.{Text, digit, digits, value, based}
use Rattle.keywords.specs.Saying.{told}
use Rattle.keywords.specs.Counting.{every, counted, Counting, Base}
use Rattle.std.specs.Prelude.{None}

grows : (base n : ℕ) (t : Text) → 0 < base → n ≤ value base n t
grows base n [] h = omega arith
grows base n (b ∷ t) h =
    let k : n ≤ n * base = le-mul_of_pos_right n h in
    omega (arith, grows base (n * base + digit b) t h)

beyond : (base most n : ℕ) (t : Text) → 0 < base → most < n → leb (value base n t) most ≡ false
beyond base most n t h k = lt-leb (value base n t) most (omega (arith, grows base n t h))

and_true : (a : Bool) → a ≡ (a && true)
and_true true = refl
and_true false = refl

-- where there is a digit, each is one
digits-every : (base b : ℕ) (t : Text) → digits base (b ∷ t) ≡ every base (b ∷ t)
digits-every base b [] = and_true (leb (suc (digit b)) base)
digits-every base b (c ∷ t) = ap (leb (suc (digit b)) base &&◌) (digits-every base c t)

based-counted : (base most b : ℕ) (t : Text) → based base most (b ∷ t) ≡ counted base most 0 (b ∷ t)
based-counted base most b t =
    ap (λ a. cond (a && leb (value base 0 (b ∷ t)) most) (some (value base 0 (b ∷ t))) none) (digits-every base b t)

and_false : (a : Bool) {b : Bool} (o : Option ℕ) → b ≡ false → cond (a && b) o none ≡ none
and_false true o e = rw e
and_false false o e = refl

-- one digit more
counted_beyond : (base most n b : ℕ) (t : Text) → 0 < base → most < n * base + digit b → counted base most n (b ∷ t) ≡ none
counted_beyond base most n b t h k =
    and_false (every base (b ∷ t)) (some (value base n (b ∷ t))) (beyond base most (n * base + digit b) t h k)

-- digit by digit
pub count-first : (base most : ℕ) (ds : Text) → 0 < length ds → Counting base most ds 0 0
count-first base most [] h = absurd (omega arith)
count-first base most (b ∷ t) h = record { small = omega arith; wide = omega arith; is = based-counted base most b t }

pub count_beyond : {base most : ℕ} {ds : Text} {n i d : ℕ} → Counting base most ds n i → i < length ds → d ≡ digit (get_or ds i 0) → Base base
    → most < n * base + d → None ≡ told (based base most ds)
count_beyond {base} {most} {ds} {n} {i} c h e b k =
    let d : drop i ds ≡ get_or ds i 0 ∷ drop (suc i) ds = drop-cons ds i 0 h in
    let x : counted base most n (drop i ds) ≡ none = rw d (counted_beyond base most n (get_or ds i 0) (drop (suc i) ds) b.some (rw e at k)) in
    ap told (sym (c.is ∙ x))

pub ruleset counts = (rules, count-first)
