-- Counters over their width. The gap is the one number below the counter's size that, added to the expected counter, comes to the received one.
use Rattle.std.proofs.Common.{◌≡◌, ℕ, zero, suc, ◌+◌, ◌-◌, ◌%◌, ◌^◌, ◌<◌, ◌≤◌, Bool, true, false, cond, ◌||◌, eqb}
use Rattle.std.proofs.Common.{ltb, List, sym, refl, ◌∙◌, add-zero, mod-lt, mod-eq_of_lt, zero-add, arith, ltb-false, ltb-true, lt-ltb, ne_eqb, eqb-true}
use native.Mathlib.Nat.{add-mod_right, mod-add-mod}
use mathlib.Core.Bool.{or-true}
use borrow.Author.Tests.{eqb-false}
use Rattle.layout.specs.Field.{Field, width, says, values, puts, Name.CTR}
use Rattle.layout.proofs.FieldLaws.{says-puts}
use Rattle.layout.proofs.TestLaws.{Tells, Tells.passes, Tells.fails, why_failed, failed, or_left, or_right}
use Rattle.packet.specs.declared.Counter.{Counter}
use Rattle.packet.specs.Counter.{holds, Exceeds, valid, difference, gap, next, later}

pub difference_less : (w c e : ℕ) → c < 256 ^ w → difference w c e < 256 ^ w
difference_less w c e h = mod-lt (c + (256 ^ w - e)) (omega arith)

pub difference_back : (w c e : ℕ) → c < 256 ^ w → e ≤ 256 ^ w → (difference w c e + e) % 256 ^ w ≡ c
difference_back w c e h l =
    let s : c + (256 ^ w - e) + e ≡ c + 256 ^ w = omega arith in
    mod-add-mod (c + (256 ^ w - e)) (256 ^ w) e ∙ rw (s, add-mod_right c (256 ^ w)) (mod-eq_of_lt h)

pub difference_only : (w c e r : ℕ) → e ≤ 256 ^ w → r < 256 ^ w → (r + e) % 256 ^ w ≡ c → r ≡ difference w c e
difference_only w c e r l h m =
    let s : r + e + (256 ^ w - e) ≡ r + 256 ^ w = omega arith in
    sym (rw (← m) (mod-add-mod (r + e) (256 ^ w) (256 ^ w - e) ∙ rw (s, add-mod_right r (256 ^ w)) (mod-eq_of_lt h)))

-- the counter n messages after c is c + n, modulo the counter's size
pub later-is : (w n c : ℕ) → 0 < w → c < 256 ^ w → later w n c ≡ (c + n) % 256 ^ w
unfolding later next
later-is w zero c h l = sym (rw add-zero (mod-eq_of_lt l))
later-is w (suc n) c h l =
    let m : (c + 1) % 256 ^ w < 256 ^ w = mod-lt (c + 1) (omega arith) in
    let e : c + 1 + n ≡ c + suc n = omega arith in
    rw (ne_eqb w 0 (omega arith)) (later-is w n ((c + 1) % 256 ^ w) h m ∙ mod-add-mod (c + 1) (256 ^ w) n ∙ rw e)

-- and without CTR it is c
pub later_without : (n c : ℕ) → later 0 n c ≡ c
unfolding later next
later_without zero c = refl
later_without (suc n) c = later_without n c

-- the counter that was expected has no gap
pub gap-none : (w c : ℕ) → c < 256 ^ w → gap w (record { known = 1; expected = c }) c ≡ 0
unfolding gap
gap-none w c l = at (eqb w 0)
  where
    at : (b : Bool) → cond (b || false) 0 (difference w c c) ≡ 0
    at true = refl
    at false = sym (difference_only w c c 0 (omega arith) (omega arith) (rw zero-add (mod-eq_of_lt l)))

-- nor has any counter from a state that is fresh, or expects it
pub gap_due : (w : ℕ) (s : Counter) (c : ℕ) → c < 256 ^ w → (0 < s.known → s.expected ≡ c) → gap w s c ≡ 0
unfolding gap
gap_due w s c l due = at (eqb w 0) (eqb s.known 0) refl
  where
    at : (a b : Bool) → eqb s.known 0 ≡ b → cond (a || b) 0 (difference w c s.expected) ≡ 0
    at true b g = refl
    at false true g = refl
    at false false g =
        let e : s.expected ≡ c = due (omega (arith, eqb-false s.known 0 g)) in
        rw e (sym (difference_only w c c 0 (omega arith) (omega arith) (rw zero-add (mod-eq_of_lt l))))

---- Counters that are written ---------------------------------------------------------------------------------------------------

-- where there is a counter, it is below its size
pub held : (w n : ℕ) → holds w n ≡ true → 0 < w → n < 256 ^ w
held w n e h = ltb-true n (256 ^ w) (rw (ne_eqb w 0 (omega arith)) at e)

-- the tests on a counter and on a state, as what they tell
pub over_tells : (w n : ℕ) → Tells (Exceeds w n → ⊥) (Exceeds w n) (holds w n)
over_tells w n = at (eqb w 0) (ltb n (256 ^ w)) refl refl
  where
    at : (a b : Bool) → eqb w 0 ≡ a → ltb n (256 ^ w) ≡ b → Tells (Exceeds w n → ⊥) (Exceeds w n) (a || b)
    at true b ga gb = passes (λ x. omega (arith, x.carried, eqb-true w 0 ga))
    at false true ga gb = passes (λ x. omega (arith, x.over, ltb-true n (256 ^ w) gb))
    at false false ga gb = fails (record { carried = omega (arith, eqb-false w 0 ga); over = ltb-false n (256 ^ w) gb })

pub exceeds : (w n : ℕ) → holds w n ≡ false → Exceeds w n
exceeds w n e = why_failed (over_tells w n) e

pub not_held : (w n : ℕ) → Exceeds w n → holds w n ≡ false
not_held w n x = failed (λ f y. f y) (over_tells w n) x

pub exceeds_known : (w : ℕ) (s : Counter) → valid w s ≡ false → (0 < s.known) × Exceeds w s.expected
unfolding valid
exceeds_known w s e =
    let k : eqb s.known 0 ≡ false = or_left (eqb s.known 0) (holds w s.expected) e in
    (omega (arith, eqb-false s.known 0 k), exceeds w s.expected (or_right (eqb s.known 0) (holds w s.expected) e))

-- without CTR every state is valid
pub valid_without : (s : Counter) → valid 0 s ≡ true
unfolding valid
valid_without s = or-true (eqb s.known 0)

pub not_valid : (w : ℕ) (s : Counter) → 0 < s.known → Exceeds w s.expected → valid w s ≡ false
unfolding valid
not_valid w s k x = rw (ne_eqb s.known 0 (omega arith)) (not_held w s.expected x)

pub next-holds : (w c : ℕ) → holds w c ≡ true → holds w (next w c) ≡ true
unfolding next
next-holds w c e = at (eqb w 0) refl
  where
    at : (b : Bool) → eqb w 0 ≡ b → b || ltb (cond b c ((c + 1) % 256 ^ w)) (256 ^ w) ≡ true
    at true g = refl
    at false g =
        let h : c < 256 ^ w = held w c e (omega (arith, eqb-false w 0 g)) in
        lt-ltb ((c + 1) % 256 ^ w) (256 ^ w) (mod-lt (c + 1) (omega arith))

-- the counter that is read is the one that was written, or 0 where there is none
pub said-counter : (node n c fill : ℕ) (fs : List Field) → holds (width CTR fs) c ≡ true
    → says CTR fs (puts (values node n c) fill fs) 0 ≡ cond (eqb (width CTR fs) 0) 0 c
said-counter node n c fill fs v = at (eqb (width CTR fs) 0) refl
  where
    at : (b : Bool) → eqb (width CTR fs) 0 ≡ b → says CTR fs (puts (values node n c) fill fs) 0 ≡ cond b 0 c
    at true e = rw (eqb-true (width CTR fs) 0 e)
    at false e =
        let w : 0 < width CTR fs = omega (arith, eqb-false (width CTR fs) 0 e) in
        says-puts (values node n c) fill CTR refl fs w (held (width CTR fs) c v w)
