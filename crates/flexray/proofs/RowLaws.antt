-- What a frame's rows say of its counter, and what the state expects behind it.
use Prim.Native.Nat.{ℕ, zero, suc, ◌+◌, ◌*◌, ◌%◌, ◌<◌}
use native.Mathlib.Omega.{arith}
use mathlib.Core.Path.{◌≡◌, ◌∙◌}
use mathlib.Core.List.{List, ◌∷◌}
use lib.ListN.{length, get_or}
use Rattle.packet.specs.declared.Counter.{Counter}
use Rattle.packet.specs.Counter.{gap, advance}
use Rattle.packet.specs.Message.{Msg}
use Rattle.packet.specs.Row.{row, table}
use Rattle.packet.proofs.CounterLaws.{later-is}
use Rattle.packet.proofs.RowLaws.{row-behind, table_gaps}
use Rattle.flexray.specs.Setting.{moved}
use Rattle.flexray.specs.Row.{frame_table, frame_state}

-- where the frame's own counter shows no gap, none of its rows does
pub frame_gaps : (d w : ℕ) (e : Counter) (m : Msg) (ms : List Msg) → gap w e m.ctr ≡ 0 → (i z : ℕ) → i < length (m ∷ ms)
    → get_or (frame_table d w e (m ∷ ms)) (5 * i + 3) z ≡ 0
unfolding frame_table row
frame_gaps d w e m ms none zero z l = none
frame_gaps d w e m ms none (suc i) z l = row-behind (row d w e m) (table d 0 e ms) i 3 z ∙ table_gaps d e ms i z (omega arith)

-- with a counter of one byte, the state behind a frame expects its counter plus what its packets move it, modulo 256
pub frame_expects : (e : Counter) (m : Msg) (ms : List Msg) → m.ctr < 256
    → frame_state 1 e (m ∷ ms) ≡ record { known = 1; expected = (m.ctr + moved (length (m ∷ ms))) % 256 }
unfolding frame_state advance
frame_expects e m ms l = rw (later-is 1 (moved (length (m ∷ ms))) m.ctr (omega arith) l)
