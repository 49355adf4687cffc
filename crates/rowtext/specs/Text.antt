-- The program's text (document 01, 'Examples'): a line for each row, five decimal numbers with one space between; or the one line of a refusal.
use Rattle.std.specs.Prelude.{ℕ, zero, suc, cond, List, [], ◌++◌, length, get_or, drop, ltb}
use Rattle.layout.specs.Walk.{Out, Out.list, Out.refused}
use Rattle.packet.specs.Reading.{Reading, Reading as R}
use Rattle.packet.specs.Answer.{Answer}
use Rattle.packet.specs.Message.{Msg}
use Rattle.packet.specs.Row.{table}
use Rattle.packet.specs.Counter.{fresh}
use Rattle.usb.specs.declared.Setting.{Setting}
use Rattle.usb.specs.Setting.{W}
use Rattle.usb.specs.Reading.{judged}
use Rattle.spelling.specs.Text.{word, refused_text}

abbrev pub row_text : (place length counter gap kind : ℕ) → List ℕ
row_text a b c d e = word a 32 ++ (word b 32 ++ (word c 32 ++ (word d 32 ++ word e 10)))

-- the row at the front of a table
abbrev pub line_of : List ℕ → List ℕ
line_of xs = row_text (get_or xs 0 0) (get_or xs 1 0) (get_or xs 2 0) (get_or xs 3 0) (get_or xs 4 0)

-- the first k rows of a table
unfoldable pub lines : ℕ → List ℕ → List ℕ
lines zero xs = []
lines (suc k) xs = line_of xs ++ lines k (drop 5 xs)

-- what is told of an answer, with the table as the call left it
abbrev pub told : Reading → List ℕ → List ℕ
told (R.Rows k c) rows = lines k rows
told (R.Refused n p) rows = refused_text n p

abbrev pub text_of : Answer Reading → List ℕ
text_of a = told a.answer a.lent

-- the setting U1: LEN and CTR bytes, multiple, A 4, M 16, X 64, from the slave
abbrev pub u1 : Setting
u1 = record { header = 1; packing = 1; align = 4; datapacket = 16; longest = 64; direction = 0 }

-- the longest input that the program reads
abbrev pub most_input : ℕ
most_input = 8192

-- what is told of what was judged: the rows of the messages, read fresh; or the refusal
abbrev pub said : Out Msg → List ℕ
said (list ms) = lines (length ms) (table u1.direction (W u1) fresh ms)
said (refused n p) = refused_text n p

-- the program's text: a longer input is refused with 2 at 0
unfoldable pub program_text : List ℕ → List ℕ
program_text t = cond (ltb most_input (length t)) (refused_text 2 0) (said (judged u1 t))
