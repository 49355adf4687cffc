-- The place that is wrong lies inside the text, or is its length.
use Prim.Native.Nat.{ℕ, ◌+◌, ◌≤◌}
use native.Mathlib.Omega.{arith}
use mathlib.Core.Path.{◌≡◌}
use mathlib.Core.Logic.{◌⊎◌, inl, inr}
use mathlib.Core.Bool.{Bool, true, false, cond}
use mathlib.Core.Option.{Option, none, some}
use mathlib.Core.List.{List, [], ◌∷◌}
use lib.ListN.{length, length-append}
use Rattle.words.specs.Words.{Word, Parts}
use Rattle.words.specs.Parting.{parting}
use Rattle.words.proofs.PartLaws.{parts}
use Rattle.std.specs.Prelude.{Ok, Err}
use Rattle.description.specs.Reading as O
use Rattle.description.specs.declared.Said.{Said}
use Rattle.description.specs.Reading.{Outcome, State, step, ending, gone_on, outcome, reading}
use Rattle.description.proofs.AnswerLaws.{endings}

-- words that start at place n or before it
abbrev Early : ℕ → List Word → Type 0
Early n [] = Unit {0}
Early n (w ∷ ws) = (w.at ≤ n) × Early n ws

early : {q n : ℕ} {u : List ℕ} {ws : List Word} {c : Bool} → Parts q u ws c → q + length u ≤ n → Early n ws
early Parts.clean h = tt
early (Parts.cut u) h = tt
early {q} (Parts.gap {s = s} {t = t} g r) h = early r (omega (arith, length-append s t))
early {q} (Parts.word {s = s} {t = t} w r) h = (omega arith, early r (omega (arith, length-append s t)))

-- a place that is wrong is at most n
abbrev AtMost : ℕ → Outcome → Type 0
AtMost n (Ok x) = Unit {0}
AtMost n (Err e) = e.place ≤ n

module _ (c : Bool) (n : ℕ) where
  at-end : (s : State) → AtMost n (cond c (ending s n) (O.Wrong n))
  at-end s = by c (ending s n) (endings s n)
    where
      by : (b : Bool) (o : Outcome) → (ending s n ≡ O.Wrong n) ⊎ ((x : Said) × (s ≡ State.done x)) → AtMost n (cond b (ending s n) (O.Wrong n))
      by false o d = omega arith
      by true o (inl d) = rw d (omega arith)
      by true o (inr (x, d)) = rw d tt

  at_most : (ws : List Word) (s : State) → Early n ws → AtMost n (outcome ws c n s)
  at_most [] s h = at-end s
  at_most (w ∷ ws) s (a, h) = by (step s w.text) (λ r. at_most ws r h)
    where
      by : (o : Option State) → ((r : State) → AtMost n (outcome ws c n r)) → AtMost n (gone_on w.at (outcome ws c n) o)
      by none rest = a
      by (some r) rest = rest r

pub place-within : (t : List ℕ) (s : State) {p : ℕ} → O.Wrong p ≡ reading t 0 s → p ≤ length t
unfolding reading
place-within t s e =
    rw (← e) at (at_most (parting 0 t).closed (length t) (parting 0 t).words s (early (parts 0 t) (omega arith)))
