-- What a writer is given (document 01, 'What reading and writing return'): joined packet bytes, and their lengths.
use Rattle.std.specs.Prelude.{◌≡◌, ℕ, suc, ◌+◌, ◌<◌, ◌≤◌, Bool, cond, not, ◌||◌}
use Rattle.std.specs.Prelude.{List, [], ◌∷◌, ◌++◌, length, take, drop, ◌==◌, ◌≢◌, nat_lt}
use Rattle.packet.specs.Limit.{most_lengths}

abbrev pub sum : List ℕ → ℕ
sum [] = 0
sum (n ∷ ns) = n + sum ns

abbrev pub joined : List (List ℕ) → List ℕ
joined [] = []
joined (b ∷ bs) = b ++ joined bs

-- the packets of these lengths, one behind another
unfoldable pub packets : List ℕ → List ℕ → List (List ℕ)
packets [] bs = []
packets (n ∷ ns) bs = take n bs ∷ packets ns (drop n bs)

-- too many lengths, or their sum differs from the bytes
unfoldable pub mismatched : List ℕ → List ℕ → Bool
mismatched ns bs = nat_lt most_lengths (length ns) || not (sum ns == length bs)

pub record Matched (ns bs : List ℕ) : Type 0 where
  pub few : length ns ≤ most_lengths
  pub same : sum ns ≡ length bs

pub data Mismatch (ns bs : List ℕ) : Type 0 where
  many : most_lengths < length ns → Mismatch ns bs
  differs : (sum ns ≢ length bs) → Mismatch ns bs

-- the least index at which a test passes; the length where it passes at none
unfoldable pub first : {A : Type 0} → (A → Bool) → List A → ℕ
first f [] = 0
first f (x ∷ xs) = cond (f x) 0 (suc (first f xs))
