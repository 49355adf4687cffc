-- Rows (document 01, 'What reading and writing return'): place, length, counter, gap, kind.
use Rattle.std.specs.Prelude.{ℕ, List, [], ◌∷◌, ◌++◌, length}
use Rattle.packet.specs.declared.Counter.{Counter}
use Rattle.packet.specs.declared.Row.{Row}
use Rattle.packet.specs.Counter.{gap, advance}
use Rattle.packet.specs.Kind.{kind_of}
use Rattle.packet.specs.Message.{Msg}

-- the row of a message whose counter has w bytes, read with the state c in direction d
unfoldable pub row : ℕ → ℕ → Counter → Msg → Row
row d w c m =
    record {
      place = m.at;
      length = length m.packet;
      counter = m.ctr;
      gap = gap w c m.ctr;
      kind = kind_of d m.packet;
    }

abbrev pub numbers : Row → List ℕ
numbers r = r.place ∷ r.length ∷ r.counter ∷ r.gap ∷ r.kind ∷ []

-- the rows of messages that each carry a counter of w bytes, one behind another, and the state behind them
unfoldable pub table : ℕ → ℕ → Counter → List Msg → List ℕ
table d w c [] = []
table d w c (m ∷ ms) = numbers (row d w c m) ++ table d w (advance w 1 c m.ctr) ms

unfoldable pub behind : ℕ → Counter → List Msg → Counter
behind w c [] = c
behind w c (m ∷ ms) = behind w (advance w 1 c m.ctr) ms
