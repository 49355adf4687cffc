-- What the code says of an answer, in the numbers and cases of the definitions.
use Rattle.std.specs.Prelude.{ℕ, Option, Some, None, Result, Ok, Err}
use Rattle.packet.specs.declared.Reason.{Reason}
use Rattle.packet.specs.declared.Reason.TheVariants as Y
use Rattle.packet.specs.declared.PacketKind.{PacketKind}
use Rattle.packet.specs.declared.PacketKind.TheVariants as K
use Rattle.packet.specs.declared.Refusal.{Refusal}
use Rattle.packet.specs.declared.Rows.{Rows}
use Rattle.packet.specs.declared.Written.{Written}
use Rattle.packet.specs.declared.Sight.{Sight}
use Rattle.packet.specs.declared.Sight.TheVariants as G
use Rattle.packet.specs.Part.{Checked}
use Rattle.packet.specs.Reading.{Reading}
use Rattle.packet.specs.Seen.{Seen}
use Rattle.packet.specs.Writing.{Writing}

-- a refusal's number
abbrev pub number_of : Reason → ℕ
number_of Y.Unsound = 1
number_of Y.Mismatch = 2
number_of Y.Overlong = 3
number_of Y.NoRoom = 4
number_of Y.Cut = 5
number_of Y.Missing = 6
number_of Y.Foreign = 7
number_of Y.Misframed = 8
number_of Y.Misplaced = 9

abbrev pub refusal_at : Reason → ℕ → Refusal
refusal_at reason p = record { reason = reason; place = p }

-- a kind's number; 0 where there is none
abbrev pub number_of_kind : PacketKind → ℕ
number_of_kind K.Response = 1
number_of_kind K.Error = 2
number_of_kind K.Event = 3
number_of_kind K.Service = 4
number_of_kind K.Data = 5
number_of_kind K.Command = 6
number_of_kind K.Stimulation = 7

abbrev pub kind_said : Option PacketKind → ℕ
kind_said None = 0
kind_said (Some kind) = number_of_kind kind

abbrev pub read_said : Result Rows Refusal → Reading
read_said (Ok r) = Reading.Rows r.count r.state
read_said (Err e) = Reading.Refused (number_of e.reason) e.place

abbrev pub write_said : Result Written Refusal → Writing
write_said (Ok w) = Writing.Bytes w.bytes w.next
write_said (Err e) = Writing.Refused (number_of e.reason) e.place

abbrev pub check_said : Result (Unit {0}) Refusal → Checked
check_said (Ok u) = Checked.Inside
check_said (Err e) = Checked.Refused (number_of e.reason) e.place

abbrev pub sight_said : Result Sight Refusal → Seen
sight_said (Ok G.Nothing) = Seen.Nothing
sight_said (Ok (G.Message m a)) = Seen.Message m a
sight_said (Ok (G.Rest a)) = Seen.Rest a
sight_said (Err e) = Seen.Refused (number_of e.reason) e.place
