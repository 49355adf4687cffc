-- A frame's rows and the state behind it (document 01, 'FlexRay settings and layout'): the first packet carries CTR, further ones carry none.
use Rattle.std.specs.Prelude.{ℕ, suc, List, [], ◌∷◌, ◌++◌, length}
use Rattle.packet.specs.declared.Counter.{Counter}
use Rattle.packet.specs.Message.{Msg}
use Rattle.packet.specs.Counter.{advance}
use Rattle.packet.specs.Row.{row, numbers, table}
use Rattle.flexray.specs.Setting.{moved}

-- the frame's counter and gap stand in the first row; further packets carry none
unfoldable pub frame_table : ℕ → ℕ → Counter → List Msg → List ℕ
frame_table d w c [] = []
frame_table d w c (m ∷ ms) = numbers (row d w c m) ++ table d 0 c ms

unfoldable pub frame_state : ℕ → Counter → List Msg → Counter
frame_state w c [] = c
frame_state w c (m ∷ ms) = advance w (moved (suc (length ms))) c m.ctr
