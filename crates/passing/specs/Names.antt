-- The names of the open blocks as the code holds them: where each starts and ends in the text, the innermost last. `/begin` and a name take 7 bytes of
-- the text at least, so a table for 2,340 names holds those of 16,384 bytes.
use Rattle.std.specs.Prelude.{ℕ, zero, suc, ◌+◌, ◌<◌, ◌≤◌, List, [], ◌∷◌, length, get_or, set}
use Rattle.std.proofs.Math.Seq.{slice}
use Rattle.words.specs.declared.Word.{Word}
use Rattle.keywords.specs.Tables.{Text}
use Rattle.passing.specs.declared.Names.{Names}

-- where the name at i starts and ends
abbrev pub place : List (ℕ × ℕ) → ℕ → ℕ × ℕ
place ps i = get_or ps i (0, 0)

-- the name that stands at i
abbrev pub name_in : List ℕ → List (ℕ × ℕ) → ℕ → Text
name_in t ps i = slice (place ps i).0 (place ps i).1 t

-- the names of the first d blocks, the innermost first
unfoldable pub names_in : List ℕ → List (ℕ × ℕ) → ℕ → List Text
names_in t ps zero = []
names_in t ps (suc d) = name_in t ps d ∷ names_in t ps d

-- that name lies inside the text
pub record Lying (t : List ℕ) (ps : List (ℕ × ℕ)) (i : ℕ) : Type 0 where
  pub held : i < length ps
  pub name : (place ps i).0 ≤ (place ps i).1
  pub inside : (place ps i).1 ≤ length t

-- so do the first d names
unfoldable pub Lie : List ℕ → List (ℕ × ℕ) → ℕ → Type 0
Lie t ps zero = Unit {0}
Lie t ps (suc d) = Lying t ps d × Lie t ps d

-- a name put on top of the others
abbrev pub held : Names → Word → Names
held n w = record { places = set n.places n.depth (w.from, w.to); depth = n.depth + 1 }
