-- What the functions ask and tell that read an entry.
use Rattle.std.specs.Prelude.{ℕ, ◌≤◌, ◌≡◌, true, List, [], length, Some, None, Result, Ok, Err}
use Rattle.std.specs.declared.option.Option as O
use Rattle.std.proofs.Math.Option.{Option, none, some}
use Rattle.std.proofs.Math.Seq.{slice}
use Rattle.words.specs.declared.Word.{Word}
use Rattle.words.specs.declared.Wrong.{Wrong}
use Rattle.keywords.specs.declared.Side.{Side}
use Rattle.keywords.specs.Tables.{Text, name, ordinary}
use Rattle.description.specs.declared.Endpoint.{Endpoint}
use Rattle.description.specs.Standing.{most_text}
use Rattle.description.specs.Reading.{Outcome, Found, put, State, step, gone_on, reading}
use Rattle.entries.specs.declared.Gathered.{Gathered}

---- What was found -------------------------------------------------------------------------------------------------------------

abbrev pub maybe : O.Option Endpoint → Option Endpoint
maybe None = none
maybe (Some e) = some e

abbrev pub meant : Gathered → Found
meant g = record { header = g.header; cmd = maybe g.cmd; res = maybe g.res }

-- the endpoint whose block has this name, or none
abbrev pub Sided : Text → O.Option Side → Type 0
Sided w (Some k) = w ≡ name k
Sided w None = ordinary w ≡ true

---- An endpoint ----------------------------------------------------------------------------------------------------------------

abbrev pub parsed : List ℕ → Side → Found → Result (Endpoint × ℕ) Wrong → Outcome
parsed t k f (Ok (e, q)) = reading t q (State.inside (put k e f) [])
parsed t k f (Err e) = Err e

abbrev pub ParsedTo : List ℕ → ℕ → Result (Endpoint × ℕ) Wrong → Type 0
ParsedTo t q (Ok (e, k)) = (q ≤ k) × (k ≤ length t)
ParsedTo t q (Err e) = Unit {0}

-- behind the name of an endpoint, whichever it is and whatever was found before
pub record Parsed (t : List ℕ) (w : Word) (r : Result (Endpoint × ℕ) Wrong) : Type 0 where
  pub is : (k : Side) (f : Found) → slice w.from w.to t ≡ name k → reading t w.to (State.endpoint k f) ≡ parsed t k f r
  pub place : ParsedTo t w.to r

---- An entry -------------------------------------------------------------------------------------------------------------------

abbrev pub entered : List ℕ → Result (Gathered × ℕ) Wrong → Outcome
entered t (Ok (g, k)) = reading t k (State.inside (meant g) [])
entered t (Err e) = Err e

abbrev pub EnteredTo : List ℕ → ℕ → Result (Gathered × ℕ) Wrong → Type 0
EnteredTo t q (Ok (g, k)) = (q ≤ k) × (k ≤ length t)
EnteredTo t q (Err e) = Unit {0}

-- behind the name of an entry's block
pub record Entering (t : List ℕ) (w : Word) (g : Gathered) (r : Result (Gathered × ℕ) Wrong) : Type 0 where
  pub is : gone_on w.from (reading t w.to) (step (State.begun (meant g) []) (slice w.from w.to t)) ≡ entered t r
  pub place : EnteredTo t w.to r

-- place q is behind a /begin
pub record Enterable (t : List ℕ) (q : ℕ) : Type 0 where
  pub short : length t ≤ most_text
  pub inside : q ≤ length t
  pub behind : 6 ≤ q

-- from place q in state s on
pub record Enters (t : List ℕ) (s : State) (q : ℕ) (r : Result (Gathered × ℕ) Wrong) : Type 0 where
  pub is : reading t q s ≡ entered t r
  pub place : EnteredTo t q r
