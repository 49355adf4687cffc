-- The laws of the walk. Behind `walk-eq` nothing knows of the fuel.
use Prim.Native.Nat.{ℕ, zero, suc, ◌-◌, ◌<◌, ◌≤◌}
use native.Mathlib.Omega.{arith}
use mathlib.Core.Path.{◌≡◌, refl, sym, ap, ◌∙◌}
use mathlib.Core.List.{List, [], ◌∷◌, append-nil}
use Rattle.layout.specs.Walk.{Step, Out, before, after, go, walk, Forward, Leads, Ends}
use Rattle.layout.specs.Walk.{Step.done, Step.entry, Step.pass, Step.fault, Out.list, Out.refused}
use Rattle.layout.specs.Walk.{Leads.here, Leads.takes, Leads.skips, Ends.ends, Ends.stops}

module _ {R : Type 0} where
  before_nil : (o : Out R) → before [] o ≡ o
  before_nil (list ls) = refl
  before_nil (refused n p) = refl

  before_cons : (r : R) (rs : List R) (o : Out R) → before (r ∷ []) (before rs o) ≡ before (r ∷ rs) o
  before_cons r rs (list ls) = refl
  before_cons r rs (refused n p) = refl

  -- two ways to go on that agree at every place ahead agree after a step
  after_same : (f g : ℕ → Out R) (n q : ℕ) → ((k : ℕ) → q < k → k ≤ n → f k ≡ g k)
      → (s : Step R) → Forward n q s → after f s ≡ after g s
  after_same f g n q same done h = refl
  after_same f g n q same (entry r k) h = ap (before (r ∷ [])) (same k h.0 h.1)
  after_same f g n q same (pass k) h = same k h.0 h.1
  after_same f g n q same (fault a p) h = refl

module _ {R : Type 0} (st : ℕ → Step R) where
  takes-on : {q k : ℕ} {r : R} {o : Out R} → st q ≡ entry r k → Ends st k o → Ends st q (before (r ∷ []) o)
  takes-on e (ends l d) = ends (takes e l) d
  takes-on e (stops l d) = stops (takes e l) d

  skips-on : {q k : ℕ} {o : Out R} → st q ≡ pass k → Ends st k o → Ends st q o
  skips-on e (ends l d) = ends (skips e l) d
  skips-on e (stops l d) = stops (skips e l) d

module _ {R : Type 0} (st : ℕ → Step R) (n : ℕ) (forward : (q : ℕ) → Forward n q (st q)) where
  -- two walks with fuel enough agree
  enough : (f g q : ℕ) → n - q < f → n - q < g → go st f q ≡ go st g q
  unfolding go
  enough zero g q hf hg = absurd (omega arith)
  enough (suc f) zero q hf hg = absurd (omega arith)
  enough (suc f) (suc g) q hf hg =
      after_same (go st f) (go st g) n q (λ k a b. enough f g k (omega arith) (omega arith)) (st q) (forward q)

  pub walk_eq : (q : ℕ) → walk st n q ≡ after (walk st n) (st q)
  unfolding go walk
  walk_eq q = after_same (go st (n - q)) (walk st n) n q (λ k a b. enough (n - q) (suc (n - k)) k (omega arith) (omega arith)) (st q) (forward q)

  -- the steps do not lead past the end
  pub reaches : {k q : ℕ} {rs : List R} → Leads st k q rs → q ≤ n → k ≤ n
  reaches here h = h
  reaches (takes {q = q} {j = j} {r = r} e l) h = let w : Forward n q (entry r j) = rw e at (forward q) in reaches l w.1
  reaches (skips {q = q} {j = j} e l) h = let w : Forward {R = R} n q (pass j) = rw e at (forward q) in reaches l w.1

  -- what is walked from q is what was taken on the way to k, and what is walked from there
  led : {k q : ℕ} {rs : List R} → Leads st k q rs → walk st n q ≡ before rs (walk st n k)
  led {k} here = sym (before_nil (walk st n k))
  led {k} (takes {q = q} {r = r} {rs = rs} e l) = rw (walk_eq q, e, led l) (before_cons r rs (walk st n k))
  led (skips {q = q} e l) = rw (walk_eq q, e) (led l)

  -- the walk gives what the steps end with
  pub walked : {q : ℕ} {o : Out R} → Ends st q o → walk st n q ≡ o
  walked (ends {k = k} {rs = rs} l d) = led l ∙ rw (walk_eq k, d) (ap list (append-nil rs))
  walked (stops {k = k} l d) = led l ∙ rw (walk_eq k, d)

  ended_for : (f q : ℕ) → n - q < f → Ends st q (walk st n q)
  ended_for zero q h = absurd (omega arith)
  ended_for (suc f) q h = rw (walk_eq q) (at (st q) refl (forward q) (ended_for f))
    where
      at : (s : Step R) → st q ≡ s → Forward n q s → ((k : ℕ) → n - k < f → Ends st k (walk st n k)) → Ends st q (after (walk st n) s)
      at done e w on = ends here e
      at (entry r k) e w on = takes-on st e (on k (omega arith))
      at (pass k) e w on = skips-on st e (on k (omega arith))
      at (fault a p) e w on = stops here e

  -- the steps end with what the walk gives
  pub ended : {q : ℕ} {o : Out R} → walk st n q ≡ o → Ends st q o
  ended {q} e = rw (← e) (ended_for (suc (n - q)) q (omega arith))
