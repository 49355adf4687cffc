-- What reading and putting a field ask and tell. A field has at most two bytes.
use Rattle.std.specs.Prelude.{ℕ, ◌+◌, ◌^◌, ◌<◌, ◌≤◌, ◌≡◌, List, length}
use Rattle.layout.specs.Field.{number_at}

pub record Within (t : List ℕ) (at w : ℕ) : Type 0 where
  pub width : w ≤ 2
  pub inside : at + w ≤ length t

pub record Number (t : List ℕ) (at w r : ℕ) : Type 0 where
  pub is : r ≡ number_at w t at
  pub below : r < 256 ^ w
  pub small : r < 65536
