-- What the walk gives where the steps keep to a layout: a list exactly if it is laid out to the end, and a refusal exactly if a rule is broken at its place
-- and all is laid out before it.
use Prim.Native.Nat.{ℕ, ◌≤◌}
use native.Mathlib.Omega.{arith}
use mathlib.Core.Path.{◌≡◌}
use mathlib.Core.List.{List}
use Rattle.layout.specs.Rule.{Leftmost}
use Rattle.layout.specs.Walk.{Step, walk, Forward, Leads, Ends, Step.done, Step.fault, Out.list, Out.refused, Ends.ends, Ends.stops}
use Rattle.layout.proofs.WalkLaws.{walked, ended, reaches}

-- what the steps have to do with a layout, and with its rules
pub record Keeps {R : Type 0} (st : ℕ → Step R) (n : ℕ) (Laid : ℕ → List R → Type 0) (Broken : ℕ → ℕ → Type 0) : Type 0 where
  pub forward : (q : ℕ) → Forward n q (st q)
  pub leads : {p : ℕ} {rs : List R} → Laid p rs → Leads st p 0 rs
  pub lay : {p : ℕ} {rs : List R} → Leads st p 0 rs → Laid p rs
  pub at-end : st n ≡ done
  pub ends_there : (q : ℕ) → q ≤ n → st q ≡ done → q ≡ n
  pub at-broken : {q m : ℕ} → Broken q m → st q ≡ fault m q
  pub breaks_there : {q m p : ℕ} → st q ≡ fault m p → (p ≡ q) × Broken q m

module _ {R : Type 0} {st : ℕ → Step R} {n : ℕ} {Laid : ℕ → List R → Type 0} {Broken : ℕ → ℕ → Type 0} (k : Keeps st n Laid Broken) where
  pub whole : {rs : List R} → walk st n 0 ≡ list rs → Laid n rs
  whole {rs} e = at (ended st n k.forward e)
    where
      at : Ends st 0 (list rs) → Laid n rs
      at (ends {k = q} l d) =
          let j : q ≡ n = k.ends_there q (reaches st n k.forward l (omega arith)) d in
          rw j at (k.lay l)

  pub listed : {rs : List R} → Laid n rs → walk st n 0 ≡ list rs
  listed l = walked st n k.forward (ends (k.leads l) k.at-end)

  pub breaks : {m p : ℕ} → walk st n 0 ≡ refused m p → Leftmost Laid Broken m p
  breaks {m} {p} e = at (ended st n k.forward e)
    where
      at : Ends st 0 (refused m p) → Leftmost Laid Broken m p
      at (stops {rs = rs} l d) = let (j, b) = k.breaks_there d in rw j (record { entries = rs; before = k.lay l; broken = b })

  pub broken : {m p : ℕ} → Leftmost Laid Broken m p → walk st n 0 ≡ refused m p
  broken b = walked st n k.forward (stops (k.leads b.before) (k.at-broken b.broken))
