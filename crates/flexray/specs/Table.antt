-- What the code holds of a header: its shape, and the least and the most of its alignments, which stand first and last; 0 where it has none.
use Rattle.std.specs.Prelude.{ℕ, List, [], ◌∷◌}
use Rattle.layout.specs.Field.{shape}
use Rattle.flexray.specs.declared.Entry.{Entry}
use Rattle.flexray.specs.Setting.{Header}

abbrev pub first : List ℕ → ℕ
first [] = 0
first (a ∷ bs) = a

abbrev pub last : List ℕ → ℕ
last [] = 0
last (a ∷ []) = a
last (a ∷ b ∷ bs) = last (b ∷ bs)

abbrev pub entry : Header → Entry
entry h = record { shape = shape h.fields; least = first h.aligns; most = last h.aligns }
