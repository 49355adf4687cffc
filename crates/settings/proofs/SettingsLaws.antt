-- The answer by its cases: too long a text, a block with both settings sound or not, and a text that is no block.
use Prim.Native.Nat.{ℕ, ◌<◌, ◌≤◌}
use native.Mathlib.Omega.{arith}
use mathlib.Core.Path.{◌≡◌, ap, ◌∙◌}
use mathlib.Core.List.{List}
use lib.ListN.{length}
use borrow.Author.Tests.{lt-ltb, le-ltb}
use Rattle.std.specs.Prelude.{Ok, Err}
use Rattle.words.specs.declared.Wrong.{Wrong}
use Rattle.description.specs.Described.{Described, Described as D}
use Rattle.description.specs.declared.Said.{Said}
use Rattle.description.specs.Standing.{most_text}
use Rattle.description.specs.Reading.{Outcome, State, judge, reading, settings_of}
use Rattle.description.proofs.PlaceLaws.{place-within}

module _ (t : List ℕ) (x : ℕ) where
  pub settings_long : most_text < length t → D.Refused 2 0 ≡ settings_of t x
  unfolding settings_of
  settings_long h = rw (lt-ltb most_text (length t) h)

  module _ (h : length t ≤ most_text) where
    pub settings_judged : {o : Outcome} → o ≡ reading t 0 State.first → judge x o ≡ settings_of t x
    unfolding settings_of
    settings_judged e = rw (le-ltb most_text (length t) h) (ap (judge x) e)

    pub settings_right : {s : Said} {d : Described} → Ok s ≡ reading t 0 State.first → d ≡ judge x (Ok s) → d ≡ settings_of t x
    settings_right e g = g ∙ settings_judged e

    pub settings_wrong : {e : Wrong} → Err e ≡ reading t 0 State.first → D.Refused 9 e.place ≡ settings_of t x
    settings_wrong e = settings_judged e

pub settings_place : (t : List ℕ) {e : Wrong} → length t ≤ most_text → Err e ≡ reading t 0 State.first → e.place < 4294967296
settings_place t h e = omega (arith, place-within t State.first e)
