-- What putting text into a lent output tells.
use Rattle.std.specs.Prelude.{ℕ, ◌+◌, ◌≤◌, ◌≡◌, List, length, take}
use Rattle.std.proofs.lemmas.List.Edits.{sets}
use Rattle.spelling.specs.Text.{decimal}

-- the first k bytes are the number in decimal
pub record Spelt (n : ℕ) (text : List ℕ) (k : ℕ) : Type 0 where
  pub digits : take k text ≡ decimal n
  pub count : k ≡ length (take k text)
  pub inside : k ≤ length text
  pub few : k ≤ 10

-- the text, of at most so many bytes, stands at a place, and r is the place behind it
pub record Puts (old : List ℕ) (at : ℕ) (text : List ℕ) (limit : ℕ) (new : List ℕ) (r : ℕ) : Type 0 where
  pub bytes : new ≡ sets old at text
  pub next : r ≡ at + length text
  pub most : r ≤ at + limit
  pub long : length new ≡ length old

-- the text stands at the front of the output, what is behind it is unchanged, and r is its length
pub record Reports (old text new : List ℕ) (r : ℕ) : Type 0 where
  pub bytes : new ≡ sets old 0 text
  pub count : r ≡ length text
  pub inside : r ≤ length new
