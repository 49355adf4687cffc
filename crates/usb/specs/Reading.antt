-- Reading a USB transfer (document 01, 'What reading and writing return'): what stands at a place, in numbers; the walk; and the answer for every input.
use Rattle.std.specs.Prelude.{ℕ, ◌+◌, ◌-◌, ◌%◌, min, Bool, true, false, cond, ◌&&◌, List, length, ltb, eqb}
use Rattle.layout.specs.Field.{says, Name.LEN, Name.CTR}
use Rattle.layout.specs.Walk.{Step, Out, walk}
use Rattle.packet.specs.declared.At.{At}
use Rattle.packet.specs.declared.Counter.{Counter}
use Rattle.packet.specs.Seen.{Seen, Seen as S}
use Rattle.packet.specs.Message.{Msg}
use Rattle.packet.specs.Seen.{as_step}
use Rattle.packet.specs.Counter.{valid}
use Rattle.packet.specs.Row.{table, behind}
use Rattle.packet.specs.Reading.{Reading}
use Rattle.packet.specs.Answer.{Answer, bounded, answered}
use Rattle.packet.specs.Limit.{most_bytes}
use Rattle.usb.specs.declared.Setting.{Setting}
use Rattle.usb.specs.Setting.{fields, H, W, whole, sound}

---- What stands at a place -----------------------------------------------------------------------------------------------------

-- the bytes from place q to the end of the data packet or of the transfer
abbrev pub space : Setting → List ℕ → ℕ → ℕ
space s t q = min (s.datapacket - q % s.datapacket) (length t - q)

-- LEN of a header at place q; 0 where no header fits into that space
unfoldable pub len_at : Setting → List ℕ → ℕ → ℕ
len_at s t q = cond (ltb (space s t q) (H s)) 0 (says LEN (fields s) t q)

-- what is to be done at a place
pub data Verdict : Type 0 where
  Stop : Verdict
  TakeRest : Verdict
  TakeMessage : Verdict
  Refuse : ℕ → Verdict

-- in this order: nothing left; behind a single message; no header or LEN zero, which is 6 in single packing and else a rest; LEN over X;
-- longer than there is room
abbrev pub choose : (gone behind bare single over past : Bool) → Verdict
choose true b c d e f = Stop
choose false true c d e f = TakeRest
choose false false true true e f = Refuse 6
choose false false true false e f = TakeRest
choose false false false d true f = Refuse 3
choose false false false d false true = Refuse 5
choose false false false d false false = TakeMessage

-- the bytes that a message may have, o bytes into the data packet and with `left` bytes to the end of the transfer
abbrev pub room : Setting → ℕ → ℕ → ℕ
room s o left = cond (ltb s.packing 2) (min (s.datapacket - o) left) left

-- by numbers alone, with LEN n
unfoldable pub judge : Setting → ℕ → ℕ → ℕ → Verdict
judge s o left n =
    choose (eqb left 0) (eqb s.packing 0 && ltb 0 o) (eqb n 0) (eqb s.packing 0) (ltb s.longest n)
    (ltb (room s o left) (whole s n))

-- a place, and the end of its data packet
abbrev pub stand : Setting → ℕ → At
stand s q = record { q = q; end = q + (s.datapacket - q % s.datapacket) }

abbrev pub answer : Setting → List ℕ → ℕ → Verdict → Seen
answer s t q Stop = S.Nothing
answer s t q TakeRest = S.Rest (stand s (q + space s t q))
answer s t q TakeMessage =
    S.Message (record { at = q + H s; len = len_at s t q; ctr = says CTR (fields s) t q }) (stand s (q + whole s (len_at s t q)))
answer s t q (Refuse n) = S.Refused n q

unfoldable pub seen : Setting → List ℕ → ℕ → Seen
seen s t q = answer s t q (judge s (q % s.datapacket) (length t - q) (len_at s t q))

---- A whole transfer -----------------------------------------------------------------------------------------------------------

abbrev pub step : Setting → List ℕ → ℕ → Step Msg
step s t q = as_step t (seen s t q)

-- what is read from place q on: the messages, or the first refusal
unfoldable pub ahead : Setting → List ℕ → ℕ → Out Msg
ahead s t q = walk (step s t) (length t) q

-- 1 for the setting and 2 come before
unfoldable pub judged : Setting → List ℕ → Out Msg
judged s t = bounded (sound s) most_bytes (length t) (ahead s t 0)

-- 1 for the state stands beside 1 for the setting, 4 comes last
unfoldable pub read_of : Setting → List ℕ → Counter → List ℕ → Answer Reading
read_of s t c rows = answered (table s.direction (W s) c) (behind (W s) c) rows (valid (W s) c) (judged s t)
