-- What was seen at a place, as a step of the walk.
use Rattle.std.specs.Prelude.{ℕ, List, take, drop}
use Rattle.layout.specs.Walk.{Step, Step.done, Step.entry, Step.pass, Step.fault}
use Rattle.packet.specs.declared.At.{At}
use Rattle.packet.specs.declared.Found.{Found}
use Rattle.packet.specs.Message.{Msg}

-- What stands at a place: a message or a rest, with the place behind it; a refusal's number and place; or nothing more.
pub data Seen : Type 0 where
  Nothing : Seen
  Message : Found → At → Seen
  Rest : At → Seen
  Refused : ℕ → ℕ → Seen

-- the message that was found in t, with its packet's bytes
abbrev pub message : List ℕ → Found → Msg
message t m = record { at = m.at; packet = take m.len (drop m.at t); ctr = m.ctr }

abbrev pub as_step : List ℕ → Seen → Step Msg
as_step t Nothing = done
as_step t (Message m a) = entry (message t m) a.q
as_step t (Rest a) = pass a.q
as_step t (Refused n p) = fault n p
