-- What the tests of a name tell.
use mathlib.Core.Path.{◌≡◌, refl, sym}
use mathlib.Core.Bool.{Bool, true, false, true≢false, not, ◌&&◌}
use Rattle.words.specs.Words.{same}
use Rattle.keywords.specs.declared.Side.TheVariants.{Cmd, Res}
use Rattle.keywords.specs.Tables.{Text, begin, end, name, plain, ordinary}

-- a plain word is neither /begin nor /end
pub record Plain (w : Text) : Type 0 where
  pub unbegin : same w begin ≡ false
  pub unend : same w end ≡ false

pub plain-is : {w : Text} → plain w ≡ true → Plain w
plain-is {w} = at (same w begin) (same w end) refl refl
  where
    at : (a b : Bool) → same w begin ≡ a → same w end ≡ b → (not a && not b) ≡ true → Plain w
    at true b e f h = absurd (true≢false (sym h))
    at false true e f h = absurd (true≢false (sym h))
    at false false e f h = record { unbegin = e; unend = f }

pub record Ordinary (w : Text) : Type 0 where
  pub plain : plain w ≡ true
  pub uncmd : same w (name Cmd) ≡ false
  pub unres : same w (name Res) ≡ false

pub ordinary-is : {w : Text} → ordinary w ≡ true → Ordinary w
ordinary-is {w} = at (plain w) (same w (name Cmd)) (same w (name Res)) refl refl refl
  where
    at : (a b c : Bool) → plain w ≡ a → same w (name Cmd) ≡ b → same w (name Res) ≡ c → (a && not b && not c) ≡ true → Ordinary w
    at false b c e f g h = absurd (true≢false (sym h))
    at true true c e f g h = absurd (true≢false (sym h))
    at true false true e f g h = absurd (true≢false (sym h))
    at true false false e f g h = record { plain = e; uncmd = f; unres = g }

pub to-plain : (w : Text) → same w begin ≡ false → same w end ≡ false → plain w ≡ true
to-plain w e f = rw (e, f)

pub to-ordinary : (w : Text) → plain w ≡ true → same w (name Cmd) ≡ false → same w (name Res) ≡ false → ordinary w ≡ true
to-ordinary w e f g = rw (e, f, g)
