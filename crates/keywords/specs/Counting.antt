-- How the digits of a number are counted.
use Rattle.std.specs.Prelude.{ℕ, suc, ◌*◌, ◌<◌, ◌≤◌, ◌≡◌, Bool, true, cond, ◌&&◌, [], ◌∷◌, drop, leb}
use Rattle.std.proofs.Math.Option.{Option, none, some}
use Rattle.keywords.specs.Tables.{Text, digit, value, based}

-- all are digits below the base
abbrev pub every : ℕ → Text → Bool
every base [] = true
every base (b ∷ t) = leb (suc (digit b)) base && every base t

-- what the bytes t say behind digits that say n, up to so much
abbrev pub counted : (base most n : ℕ) → Text → Option ℕ
counted base most n t = cond (every base t && leb (value base n t) most) (some (value base n t)) none

-- the digits ds are counted up to index i, which comes to n
pub record Counting (base most : ℕ) (ds : Text) (n i : ℕ) : Type 0 where
  pub small : n ≤ most
  pub wide : n * base ≤ 16 * most
  pub is : based base most ds ≡ counted base most n (drop i ds)

-- a base that a byte may be a digit of
pub record Base (base : ℕ) : Type 0 where
  pub some : 0 < base
  pub most : base ≤ 16
