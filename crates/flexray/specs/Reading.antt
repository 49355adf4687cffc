-- Reading a FlexRay frame (document 01, 'What reading and writing return'): what stands at a place, in numbers; the walk; and the answer for every input.
-- Place 0 is the frame's start; any other place is the end of a packet.
use Rattle.std.specs.Prelude.{ℕ, ◌+◌, ◌-◌, ◌%◌, cond, not, ◌||◌, List, length, get_or, ltb, eqb}
use Rattle.layout.specs.Field.{says, Name.NAX, Name.LEN, Name.CTR}
use Rattle.layout.specs.Walk.{Step, Out, walk, Out.refused}
use Rattle.packet.specs.declared.Counter.{Counter}
use Rattle.packet.specs.Seen.{Seen, Seen as S}
use Rattle.packet.specs.Message.{Msg}
use Rattle.packet.specs.Seen.{as_step}
use Rattle.packet.specs.Counter.{valid}
use Rattle.packet.specs.Reading.{Reading}
use Rattle.packet.specs.Answer.{Answer, answered}
use Rattle.flexray.specs.declared.Setting.{Setting}
use Rattle.flexray.specs.Row.{frame_table, frame_state}
use Rattle.flexray.specs.Setting.{fields, H, L, W, start, sound}

---- What stands at a place -----------------------------------------------------------------------------------------------------

-- what is seen of a packet of n bytes at place p with counter c: `none` where n is 0, `past` where it ends past the frame, else the packet
abbrev pub packet_at : List ℕ → Seen → Seen → (p n c : ℕ) → Seen
packet_at t none past p n c =
    cond (eqb n 0) none
    (cond (ltb (length t) (p + n)) past
    (S.Message (record { at = p; len = n; ctr = c }) (record { q = p + n; end = length t })))

-- the first packet's length: LEN, or without LEN everything behind the header
abbrev pub first_len : Setting → List ℕ → ℕ
first_len s t = cond (eqb (L s) 0) (length t - H s) (says LEN (fields s) t 0)

-- LEN of the packet behind one that ends at e; 0 where its place is outside
abbrev pub next_len : ℕ → List ℕ → ℕ → ℕ
next_len a t e = get_or t (start a e - 1) 0

unfoldable pub seen : Setting → List ℕ → ℕ → Seen
seen s t q =
    cond (eqb q 0) (packet_at t (S.Refused 6 0) (S.Refused 5 0) (H s) (first_len s t) (says CTR (fields s) t 0))
    (packet_at t S.Nothing (S.Refused 5 (start s.align q - 1)) (start s.align q) (next_len s.align t q) 0)

---- A whole frame --------------------------------------------------------------------------------------------------------------

abbrev pub step : Setting → List ℕ → ℕ → Step Msg
step s t q = as_step t (seen s t q)

-- what is read from place q on: the packets, or the first refusal
unfoldable pub ahead : Setting → List ℕ → ℕ → Out Msg
ahead s t q = walk (step s t) (length t) q

-- 1 for the setting, 8, 6 by length and 7 come before
unfoldable pub judged : Setting → List ℕ → Out Msg
judged s t =
    let w = ahead s t 0 in
    cond (not (sound s)) (refused 1 0)
    (cond (eqb (length t % 2) 1 || ltb s.ceiling (length t)) (refused 8 0)
    (cond (ltb (length t) (H s + 1)) (refused 6 0)
    (cond (not (eqb (says NAX (fields s) t 0) s.node)) (refused 7 0) w)))

-- 1 for the state stands beside 1 for the setting, 4 comes last
unfoldable pub read_of : Setting → List ℕ → Counter → List ℕ → Answer Reading
read_of s t c rows = answered (frame_table s.direction (W s) c) (frame_state (W s) c) rows (valid (W s) c) (judged s t)
