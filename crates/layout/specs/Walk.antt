-- Reading by steps: at each place a step finds the end, an entry and the next place, something to pass over and the next place, or a fault.
-- The walk goes from a place to the end and gives the entries in order, or the first fault. It is the same for every layout; only the step differs.
use Rattle.std.specs.Prelude.{ℕ, zero, suc, ◌-◌, ◌<◌, ◌≤◌, ◌≡◌, List, [], ◌∷◌, ◌++◌}

pub data Step (R : Type 0) : Type 0 where
  done : Step R
  entry : R → ℕ → Step R
  pass : ℕ → Step R
  fault : ℕ → ℕ → Step R

pub data Out (R : Type 0) : Type 0 where
  list : List R → Out R
  refused : ℕ → ℕ → Out R

module _ {R : Type 0} where
  -- the entries rs, and then what o gives
  abbrev pub before : List R → Out R → Out R
  before rs (list ls) = list (rs ++ ls)
  before rs (refused n p) = refused n p

  -- what a step gives, where `on` goes on from the next place
  abbrev pub after : (ℕ → Out R) → Step R → Out R
  after on done = list []
  after on (entry r k) = before (r ∷ []) (on k)
  after on (pass k) = on k
  after on (fault n p) = refused n p

  -- a walk of at most f steps
  unfoldable pub go : (ℕ → Step R) → ℕ → ℕ → Out R
  go st zero q = list []
  go st (suc f) q = after (go st f) (st q)

  -- the walk from place q of an input that is n long
  unfoldable pub walk : (ℕ → Step R) → ℕ → ℕ → Out R
  walk st n q = go st (suc (n - q)) q

  -- the step goes forward, and not past n
  abbrev pub Forward : ℕ → ℕ → Step R → Type 0
  Forward n q done = Unit {0}
  Forward n q (entry r k) = (q < k) × (k ≤ n)
  Forward n q (pass k) = (q < k) × (k ≤ n)
  Forward n q (fault a p) = Unit {0}

-- the steps lead from place q to place k, with the entries rs on the way
pub data Leads {R : Type 0} (st : ℕ → Step R) (k : ℕ) : ℕ → List R → Type 0 where
  here : Leads st k k []
  takes : {q j : ℕ} {r : R} {rs : List R} → st q ≡ entry r j → Leads st k j rs → Leads st k q (r ∷ rs)
  skips : {q j : ℕ} {rs : List R} → st q ≡ pass j → Leads st k j rs → Leads st k q rs

-- they lead to the end, or to a fault
pub data Ends {R : Type 0} (st : ℕ → Step R) (q : ℕ) : Out R → Type 0 where
  ends : {k : ℕ} {rs : List R} → Leads st k q rs → st k ≡ done → Ends st q (list rs)
  stops : {k n p : ℕ} {rs : List R} → Leads st k q rs → st k ≡ fault n p → Ends st q (refused n p)
