-- Runs of bytes, eight at a time.
use Rattle.std.specs.Prelude.{ℕ, ◌<◌, ◌≤◌, ◌≡◌, Bool, false, not, ◌||◌, List, [], ◌∷◌, length, get_or, eqb, ltb}
use Rattle.std.proofs.Math.Seq.{slice}

-- some of these bytes has the property f, or x holds already
abbrev pub or_some : Bool → (ℕ → Bool) → List ℕ → Bool
or_some x f [] = x
or_some x f (b ∷ s) = or_some (x || f b) f s

abbrev pub some : (ℕ → Bool) → List ℕ → Bool
some f s = or_some false f s

abbrev pub under : ℕ → ℕ → Bool
under n b = ltb b n

abbrev pub equal : ℕ → ℕ → Bool
equal n b = eqb b n

abbrev pub other : ℕ → ℕ → Bool
other n b = not (eqb b n)

-- no byte from place q up to place r has the property f
pub record Run (f : ℕ → Bool) (t : List ℕ) (q r : ℕ) : Type 0 where
  pub from : q ≤ r
  pub to : r ≤ length t
  pub is : some f (slice q r t) ≡ false

-- each byte from place q up to place r is such a byte
pub record Passed (Such : ℕ → Type 0) (t : List ℕ) (q r : ℕ) : Type 0 where
  pub from : q ≤ r
  pub to : r ≤ length t
  pub each : (i : ℕ) → q ≤ i → i < r → Such (get_or t i 0)
