-- What the functions ask and tell that read words which must stand: what the text comes to from any state that asks for such words.
use Rattle.std.specs.Prelude.{ℕ, ◌<◌, ◌≤◌, ◌≡◌, List, [], ◌∷◌, ◌++◌, length, take, drop, Result, Ok, Err}
use Rattle.std.proofs.Math.Option.{Option}
use Rattle.words.specs.declared.Wrong.{Wrong}
use Rattle.keywords.specs.declared.Kind.{Kind}
use Rattle.keywords.specs.declared.Kind.TheVariants as K
use Rattle.keywords.specs.Tables.{Text}
use Rattle.keywords.specs.Saying.{meaning}
use Rattle.description.specs.Reading.{Outcome, State, given, step, reading}
use Rattle.passing.specs.Passing.{Open}

---- One word -------------------------------------------------------------------------------------------------------------------

-- state s asks for a word of the kind, and goes on by what it says
pub record Asks (s : State) (kind : Text → Option ℕ) (then : ℕ → State) : Type 0 where
  pub word : (w : Text) → step s w ≡ given (kind w) then
  pub early : Open s

-- what a word says, and the place behind it
abbrev pub got : List ℕ → (ℕ → State) → Result (ℕ × ℕ) Wrong → Outcome
got t then (Ok (n, k)) = reading t k (then n)
got t then (Err e) = Err e

abbrev pub GotTo : List ℕ → ℕ → Result (ℕ × ℕ) Wrong → Type 0
GotTo t q (Ok (n, k)) = (q < k) × (k ≤ length t)
GotTo t q (Err e) = Unit {0}

pub record Expects (kind : Text → Option ℕ) (t : List ℕ) (q : ℕ) (r : Result (ℕ × ℕ) Wrong) : Type 0 where
  pub is : (s : State) (then : ℕ → State) → Asks s kind then → reading t q s ≡ got t then r
  pub place : GotTo t q r

---- A series -------------------------------------------------------------------------------------------------------------------

abbrev pub openings : List Kind
openings = K.Begin ∷ K.Block ∷ K.Number ∷ K.Number ∷ K.Number ∷ K.Number ∷ K.Header ∷ []

abbrev pub parameters : List Kind
parameters = K.Number ∷ K.Transfer ∷ K.Number ∷ K.Number ∷ K.Packing ∷ K.Alignment ∷ []

-- state s, behind words that say vs, asks for words of these kinds and goes on by all that they say
abbrev pub Leads : List Kind → State → List ℕ → (List ℕ → State) → Type 0
Leads [] s vs then = s ≡ then vs
Leads (k ∷ ks) s vs then = (u : ℕ → State) × Asks s (meaning k) u × ((n : ℕ) → Leads ks (u n) (vs ++ (n ∷ [])) then)

-- what the words say, and the place behind them
abbrev pub led : List ℕ → (List ℕ → State) → Result (List ℕ × ℕ) Wrong → Outcome
led t then (Ok (vs, k)) = reading t k (then vs)
led t then (Err e) = Err e

abbrev pub LedTo : List ℕ → ℕ → Result (List ℕ × ℕ) Wrong → Type 0
LedTo t q (Ok (vs, k)) = (q ≤ k) × (k ≤ length t)
LedTo t q (Err e) = Unit {0}

pub record Led (ks : List Kind) (t : List ℕ) (q : ℕ) (r : Result (List ℕ × ℕ) Wrong) : Type 0 where
  pub is : (s : State) (then : List ℕ → State) → Leads ks s [] then → reading t q s ≡ led t then r
  pub place : LedTo t q r

-- the first i words are read, and the text is at state u, place k
pub record At (ks : List Kind) (t : List ℕ) (q : ℕ) (vs : List ℕ) (i k : ℕ) (s : State) (then : List ℕ → State) : Type 0 where
  pub state : State
  pub leads : Leads (drop i ks) state (take i vs) then
  pub is : reading t q s ≡ reading t k state

pub record Midway (ks : List Kind) (t : List ℕ) (q : ℕ) (vs : List ℕ) (i k : ℕ) : Type 0 where
  pub all : length vs ≡ length ks
  pub upto : i ≤ length ks
  pub from : q ≤ k
  pub inside : k ≤ length t
  pub at : (s : State) (then : List ℕ → State) → Leads ks s [] then → At ks t q vs i k s then
