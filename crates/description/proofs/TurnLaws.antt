-- A turn of the reader's loop: what the text still comes to, by the word that was found next.
use Prim.Native.Nat.{ℕ}
use mathlib.Core.Path.{◌≡◌, ap}
use mathlib.Core.Option.{none, some}
use mathlib.Core.List.{List}
use lib.ListN.{length}
use lib.Seq.{slice}
use Rattle.words.specs.declared.Word.{Word}
use Rattle.words.specs.declared.Wrong.{Wrong}
use Rattle.finding.specs.Finding.{NextWord}
use Rattle.std.specs.Prelude.{Result, Ok, Err, Some, None, IsErr, IsErrAnd}
use Rattle.description.specs.Reading as O
use Rattle.description.specs.Reading.{State, step, ending, gone_on, reading}

module _ {t : List ℕ} {q : ℕ} (s : State) where
  pub turn_word : {w : Word} → NextWord t q (Ok (Some w)) → reading t q s ≡ gone_on w.from (reading t w.to) (step s (slice w.from w.to t))
  unfolding reading
  turn_word n = rw n.is

  -- a word that is taken
  pub turn_on : {w : Word} {r : State} → NextWord t q (Ok (Some w)) → step s (slice w.from w.to t) ≡ some r → reading t q s ≡ reading t w.to r
  unfolding reading
  turn_on n e = rw (n.is, e)

  -- a word that cannot stand
  pub turn_wrong : {w : Word} → NextWord t q (Ok (Some w)) → step s (slice w.from w.to t) ≡ none → reading t q s ≡ O.Wrong w.from
  unfolding reading
  turn_wrong n e = rw (n.is, e)

  -- the text's end
  pub turn_end : NextWord t q (Ok None) → reading t q s ≡ ending s (length t)
  unfolding reading
  turn_end n = rw n.is

  pub turn_cut : {e : Wrong} → NextWord t q (Err e) → reading t q s ≡ Err e
  unfolding reading
  turn_cut n = rw (n.is, n.within)

-- what a `?` returns is the error that it met
pub gives_on : {X E : Type 0} (r : Result X E) {e : E} → IsErr r × IsErrAnd r (λ d. d ≡ e) → r ≡ Err e
gives_on (Err d) h = ap Err h.1
gives_on (Ok x) h = absurd h.1
