-- Reading a datagram (Ask 3): what stands at a place, in numbers; the walk; and the answer for every input.
use Rattle.std.specs.Prelude.{ℕ, ◌+◌, ◌-◌, cond, List, length, ltb, eqb}
use Rattle.layout.specs.Field.{says, Name.LEN, Name.CTR}
use Rattle.layout.specs.Walk.{Step, Out, walk}
use Rattle.packet.specs.declared.Counter.{Counter}
use Rattle.packet.specs.Reading.{Reading}
use Rattle.packet.specs.Seen.{Seen, Seen as S}
use Rattle.packet.specs.Answer.{Answer, bounded, answered}
use Rattle.packet.specs.Counter.{valid}
use Rattle.packet.specs.Message.{Msg}
use Rattle.packet.specs.Row.{table, behind}
use Rattle.packet.specs.Seen.{as_step}
use Rattle.udp.specs.declared.Setting.{Setting}
use Rattle.udp.specs.Setting.{fields, H, W, most_datagram, sound}

-- the message whose header at place q says a length of n, and the place behind it
abbrev pub message_at : List ℕ → (q n : ℕ) → Seen
message_at t q n = S.Message (record { at = q + H; len = n; ctr = says CTR fields t q }) (record { q = q + (H + n); end = length t })

-- in this order: nothing left; fewer bytes than a header; LEN zero; LEN over X; a packet that runs past the datagram
unfoldable pub seen : Setting → List ℕ → ℕ → Seen
seen s t q =
    let left = length t - q in
    let n = says LEN fields t q in
    cond (eqb left 0) S.Nothing
    (cond (ltb left H) (S.Refused 5 q)
    (cond (eqb n 0) (S.Refused 6 q)
    (cond (ltb s.longest n) (S.Refused 3 q)
    (cond (ltb left (H + n)) (S.Refused 5 q) (message_at t q n)))))

---- A whole datagram -----------------------------------------------------------------------------------------------------------

abbrev pub step : Setting → List ℕ → ℕ → Step Msg
step s t q = as_step t (seen s t q)

-- what is read from place q on: the messages, or the first refusal
unfoldable pub ahead : Setting → List ℕ → ℕ → Out Msg
ahead s t q = walk (step s t) (length t) q

-- 1 for the setting and 2 come before
unfoldable pub judged : Setting → List ℕ → Out Msg
judged s t = bounded (sound s) most_datagram (length t) (ahead s t 0)

-- 1 for the state stands beside 1 for the setting, 4 comes last
unfoldable pub read_of : Setting → List ℕ → Counter → List ℕ → Answer Reading
read_of s t c rows = answered (table s.direction W c) (behind W c) rows (valid W c) (judged s t)
