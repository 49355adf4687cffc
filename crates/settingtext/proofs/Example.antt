-- The text for the example of document 000, chapter 4.2; the text without X; and arguments that are a number, and that are none: computed.
use Prim.Native.Nat.{ℕ}
use mathlib.Core.Path.{◌≡◌, refl}
use mathlib.Core.Option.{none, some}
use mathlib.Core.List.{List, [], ◌∷◌, ◌++◌, map}
use Rattle.std.specs.Prelude.{Some, None}
use Rattle.words.specs.Words.{ascii}
use Rattle.description.proofs.Example.{block, described}
use Rattle.spelling.specs.Text.{spelled, decimal}
use Rattle.settingtext.specs.Text.{argument, program_text}

pub printed : program_text block (Some 56)
    ≡ ascii "cmd_stim 5 0 4 64 56 1" ++ (10 ∷ (ascii "res_daq 5 0 4 64 56 0" ++ (10 ∷ [])))
unfolding spelled decimal program_text
printed = rw described

-- whatever the input
pub unasked : (t : List ℕ) → program_text t None ≡ ascii "refused 1 0" ++ (10 ∷ [])
unfolding spelled decimal program_text
unasked t = refl

pub numbers : map (argument 2) (ascii "56" ∷ ascii "0056" ∷ ascii "0" ∷ ascii "4294967295" ∷ [])
    ≡ some 56 ∷ some 56 ∷ some 0 ∷ some 4294967295 ∷ []
unfolding argument
numbers = refl

pub no_numbers : map (argument 2) ([] ∷ ascii "5x" ∷ ascii "-1" ∷ ascii "0x10" ∷ ascii "4294967296" ∷ [])
    ≡ none ∷ none ∷ none ∷ none ∷ none ∷ []
unfolding argument
no_numbers = refl

pub other-words : map (λ n. argument n (ascii "56")) (0 ∷ 1 ∷ 3 ∷ []) ≡ none ∷ none ∷ none ∷ []
unfolding argument
other-words = refl
