-- What a word says: nothing where it is none of the kind that is asked for.
use Rattle.std.specs.Prelude.{ℕ, cond, List, [], ◌∷◌, Some, None}
use Rattle.std.specs.declared.option.Option as O
use Rattle.std.proofs.Math.Option.{Option, none, some}
use Rattle.words.specs.Words.{same}
use Rattle.keywords.specs.declared.Kind.{Kind}
use Rattle.keywords.specs.declared.Kind.TheVariants as K
use Rattle.keywords.specs.Tables.{Text, begin, xcp_on_usb, header, transfer, packing, alignment, number}

-- this word and no other, which says 0
abbrev pub exactly : Text → Text → Option ℕ
exactly x w = cond (same w x) (some 0) none

abbrev pub meaning : Kind → Text → Option ℕ
meaning K.Begin = exactly begin
meaning K.Block = exactly xcp_on_usb
meaning K.Number = number
meaning K.Header = header
meaning K.Transfer = transfer
meaning K.Packing = packing
meaning K.Alignment = alignment

abbrev pub told : Option ℕ → O.Option ℕ
told none = None
told (some n) = Some n

-- what a word says by lines of a name and the number that it says
abbrev pub listed : List (Text × ℕ) → Text → Option ℕ
listed [] w = none
listed ((name, n) ∷ ls) w = cond (same w name) (some n) (listed ls w)
