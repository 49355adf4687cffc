-- The parting of every text, as a function: piece by piece, each up to where it ends.
use Rattle.std.specs.Prelude.{ℕ, zero, suc, ◌+◌, Bool, true, false, cond, List, [], ◌∷◌, length, take, drop}
use Rattle.std.proofs.Math.Option.{Option, none, some}
use Rattle.words.specs.declared.Start.{Start}
use Rattle.words.specs.declared.Start.TheVariants.{Nothing, Blank, Comment, Line, Quote, Other}
use Rattle.words.specs.Words.{ascii, begins, start, ends_word, ends_line, Word}

-- what stands at a place: nothing, what is not closed, a gap or a word of so many bytes
pub data Piece : Type 0 where
  done unclosed : Piece
  passed taken : ℕ → Piece

abbrev pub one_more : Option ℕ → Option ℕ
one_more none = none
one_more (some n) = some (suc n)

-- how many bytes stand before the first place with the property p
abbrev pub find : (List ℕ → Bool) → List ℕ → Option ℕ
find p [] = cond (p []) (some 0) none
find p (b ∷ t) = cond (p (b ∷ t)) (some 0) (one_more (find p t))

-- the piece that is made of so many
abbrev pub up_to : (ℕ → Piece) → Option ℕ → Piece
up_to made none = Piece.unclosed
up_to made (some n) = made n

-- a word and a line always end, so what is said of them where no end is found does not matter
abbrev pub piece_from : Start → List ℕ → Piece
piece_from Nothing t = Piece.done
piece_from Blank t = Piece.passed 1
piece_from Comment t = up_to (λ n. Piece.passed (n + 4)) (find (begins (ascii "*/")) (drop 2 t))
piece_from Line t = up_to (λ n. Piece.passed (n + 2)) (find ends_line (drop 2 t))
piece_from Quote t = up_to (λ n. Piece.taken (n + 2)) (find (begins (ascii "\"")) (drop 1 t))
piece_from Other t = up_to Piece.taken (find ends_word t)

unfoldable pub piece : List ℕ → Piece
piece t = piece_from (start t) t

pub record Parted : Type 0 where
  pub words : List Word
  pub closed : Bool

-- the piece at place q, and then what `go` says of the bytes behind it
abbrev pub after : (ℕ → List ℕ → Parted) → ℕ → List ℕ → Piece → Parted
after go q t done = record { words = []; closed = true }
after go q t unclosed = record { words = []; closed = false }
after go q t (passed n) = go (q + n) (drop n t)
after go q t (taken n) =
    let r = go (q + n) (drop n t) in
    record { words = record { at = q; text = take n t } ∷ r.words; closed = r.closed }

-- at most f pieces
unfoldable pub pieces : ℕ → ℕ → List ℕ → Parted
pieces zero q t = record { words = []; closed = true }
pieces (suc f) q t = after (pieces f) q t (piece t)

-- the bytes t from place q on
unfoldable pub parting : ℕ → List ℕ → Parted
parting q t = pieces (suc (length t)) q t
