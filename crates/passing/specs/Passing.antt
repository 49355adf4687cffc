-- What the functions ask and tell that read over a block: what the text still comes to, whatever was found before.
use Rattle.std.specs.Prelude.{ℕ, ◌+◌, ◌-◌, ◌*◌, ◌<◌, ◌≤◌, ◌≡◌, true, List, [], ◌∷◌, length, Result, Ok, Err, Some}
use Rattle.std.proofs.Math.Seq.{slice}
use Rattle.words.specs.declared.Word.{Word}
use Rattle.words.specs.declared.Wrong.{Wrong}
use Rattle.description.specs.Reading as R
use Rattle.description.specs.Reading.{Outcome, Found, State, ending, reading}
use Rattle.description.specs.Standing.{most_text}
use Rattle.finding.specs.Finding.{NextWord}
use Rattle.keywords.specs.Tables.{Text, begin, end, plain}
use Rattle.passing.specs.declared.Names.{Names}
use Rattle.passing.specs.declared.Sign.{Sign}
use Rattle.passing.specs.declared.Sign.TheVariants as S
use Rattle.passing.specs.Names.{name_in, names_in, Lie}

-- a state in which the text may not end
abbrev pub Open : State → Type 0
Open s = (n : ℕ) → ending s n ≡ R.Wrong n

-- in such a state the text comes to this
abbrev pub Stopping : List ℕ → ℕ → Wrong → Type 0
Stopping t q e = (s : State) → Open s → reading t q s ≡ Err e

-- the next word from place q on, where one has to stand
abbrev pub Needed : List ℕ → ℕ → Result Word Wrong → Type 0
Needed t q (Ok w) = NextWord t q (Ok (Some w))
Needed t q (Err e) = Stopping t q e

abbrev pub Says : Text → Sign → Type 0
Says w S.Begin = w ≡ begin
Says w S.End = w ≡ end
Says w S.Other = plain w ≡ true

-- .. and which of three it is
abbrev pub Signed : List ℕ → ℕ → Result (Sign × Word) Wrong → Type 0
Signed t q (Ok (x, w)) = NextWord t q (Ok (Some w)) × Says (slice w.from w.to t) x
Signed t q (Err e) = Stopping t q e

-- the name of a block, behind its /begin, whatever was found before and in whatever blocks
abbrev pub NextName : List ℕ → ℕ → Result Word Wrong → Type 0
NextName t q (Ok w) = NextWord t q (Ok (Some w)) × (plain (slice w.from w.to t) ≡ true)
NextName t q (Err e) = (f : Found) (ns : List Text) → reading t q (State.begun f ns) ≡ Err e

-- at place q these names are held; `more` bytes of /begin stand before it
pub record Held (t : List ℕ) (n : Names) (more q : ℕ) : Type 0 where
  pub short : length t ≤ most_text
  pub inside : q ≤ length t
  pub deep : 7 * n.depth + more ≤ q
  pub lie : Lie t n.places n.depth

-- inside blocks of these names, also behind /begin; and behind /end, inside the innermost of them
abbrev pub inside_of : List ℕ → Names → Found → State
inside_of t n f = State.inside f (names_in t n.places n.depth)

abbrev pub opening : List ℕ → Names → Found → State
opening t n f = State.begun f (names_in t n.places n.depth)

abbrev pub closing : List ℕ → Names → Found → State
closing t n f = State.ended f (name_in t n.places (n.depth - 1)) (names_in t n.places (n.depth - 1))

abbrev pub turned : List ℕ → Names → Found → Result ℕ Wrong → Outcome
turned t n f (Ok k) = reading t k (inside_of t n f)
turned t n f (Err e) = Err e

abbrev pub TurnedTo : List ℕ → Names → ℕ → Result ℕ Wrong → Type 0
TurnedTo t n q (Ok k) = (q < k) × Held t n 0 k
TurnedTo t n q (Err e) = Unit {0}

-- from place q in state s on, by one word or a name behind one, to where these names are held
pub record Turned (t : List ℕ) (q : ℕ) (s : Found → State) (n : Names) (r : Result ℕ Wrong) : Type 0 where
  pub is : (f : Found) → reading t q (s f) ≡ turned t n f r
  pub place : TurnedTo t n q r

-- the block of this name may be read over from place q on
pub record Passable (t : List ℕ) (name : Word) (q : ℕ) : Type 0 where
  pub short : length t ≤ most_text
  pub order : name.from ≤ name.to
  pub behind : name.to ≤ q
  pub inside : q ≤ length t
  pub deep : 7 ≤ q

abbrev pub reached : List ℕ → Found → Result ℕ Wrong → Outcome
reached t f (Ok k) = reading t k (State.inside f [])
reached t f (Err e) = Err e

abbrev pub ReachedTo : List ℕ → ℕ → Result ℕ Wrong → Type 0
ReachedTo t q (Ok k) = (q ≤ k) × (k ≤ length t)
ReachedTo t q (Err e) = Unit {0}

-- to the end of that block
pub record Passed (t : List ℕ) (name : Word) (q : ℕ) (r : Result ℕ Wrong) : Type 0 where
  pub is : (f : Found) → reading t q (State.inside f (slice name.from name.to t ∷ [])) ≡ reached t f r
  pub place : ReachedTo t q r

-- on the way there: place k, inside blocks of these names
pub record OnTheWay (t : List ℕ) (name : Word) (q : ℕ) (n : Names) (k : ℕ) : Type 0 where
  pub is : (f : Found) → reading t q (State.inside f (slice name.from name.to t ∷ [])) ≡ reading t k (inside_of t n f)
  pub held : Held t n 0 k
  pub on : q ≤ k
