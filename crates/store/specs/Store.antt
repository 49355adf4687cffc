-- What putting bytes into a lent output asks and tells.
use Rattle.std.specs.Prelude.{ℕ, zero, suc, ◌+◌, ◌≤◌, Bool, cond, ◌&&◌, List, [], ◌∷◌, length, take, drop, leb}

-- a run of n bytes has room
pub record Inside (out : List ℕ) (at n : ℕ) : Type 0 where
  pub room : at + n ≤ length out

-- a run of low to high bytes has room
pub record Short (out : List ℕ) (at n low high : ℕ) : Type 0 where
  pub least : low ≤ n
  pub most : n ≤ high
  pub room : at + n ≤ length out

-- the n bytes from i on are there, have room, and are no more than a block holds
pub record Copyable (out : List ℕ) (at : ℕ) (bs : List ℕ) (i n : ℕ) : Type 0 where
  pub room : at + n ≤ length out
  pub there : i + n ≤ length bs
  pub most : n ≤ 65536

-- the first n bytes of a part, for all of which there is room
pub record First (out : List ℕ) (at : ℕ) (part : List ℕ) (n : ℕ) : Type 0 where
  pub there : n ≤ length part
  pub most : n ≤ 65536
  pub room : at + length part ≤ length out

-- one to three bytes, by the first, the middle and the last
abbrev pub few : ℕ → ℕ → ℕ → ℕ → List ℕ
few zero first middle last = []
few (suc zero) first middle last = last ∷ []
few (suc (suc zero)) first middle last = first ∷ last ∷ []
few (suc (suc (suc n))) first middle last = first ∷ middle ∷ last ∷ []

-- the n bytes from i on
abbrev pub block : List ℕ → ℕ → ℕ → List ℕ
block bs i n = take n (drop i bs)

-- what goes with the first n bytes of a part, where more may go: the others of its first 64, if n is no more and the part has them
abbrev pub along : (more : Bool) → (n : ℕ) → List ℕ → List ℕ
along more n part = cond (more && (leb n 64 && leb 64 (length part))) (drop n (take 64 part)) []
