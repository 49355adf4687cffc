-- The text of xcpsettings (Ask 1): a line for each of the two settings, its name and six decimal numbers with one space between; or the one line of a refusal.
use Rattle.std.specs.Prelude.{ℕ, cond, List, ◌++◌, eqb, Some, None}
use Rattle.std.specs.declared.option.Option as O
use Rattle.std.proofs.Math.Option.{Option, none}
use Rattle.words.specs.Words.{ascii}
use Rattle.keywords.specs.Tables.{based}
use Rattle.usb.specs.declared.Setting.{Setting}
use Rattle.description.specs.Described.{Described, Described as D}
use Rattle.description.specs.Reading.{settings_of}
use Rattle.spelling.specs.Text.{word, refused_text}

-- in the order of the setting's fields
abbrev pub numbers_of : Setting → List ℕ
numbers_of s =
    word s.header 32
    ++ (word s.packing 32 ++ (word s.align 32 ++ (word s.datapacket 32 ++ (word s.longest 32 ++ word s.direction 10))))

abbrev pub lines_of : (cmd res : Setting) → List ℕ
lines_of c r = ascii "cmd_stim " ++ (numbers_of c ++ (ascii "res_daq " ++ numbers_of r))

abbrev pub described_text : Described → List ℕ
described_text (D.Both c r) = lines_of c r
described_text (D.Refused n p) = refused_text n p

-- X: the one argument behind the program's own name, in decimal digits, at most 4,294,967,295
unfoldable pub argument : (words : ℕ) (first : List ℕ) → Option ℕ
argument n w = cond (eqb n 2) (based 10 4294967295 w) none

-- the program's text by its input and X; without X it is refused with 1 at 0, whatever the input
unfoldable pub program_text : List ℕ → O.Option ℕ → List ℕ
program_text t None = refused_text 1 0
program_text t (Some x) = described_text (settings_of t x)
