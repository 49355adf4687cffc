-- What is answered to a text: the settings of the CMD/STIM and of the RES/DAQ endpoint, or a refusal's number and place.
use Rattle.std.specs.Prelude.{ℕ, Result, Ok, Err}
use Rattle.packet.specs.declared.Refusal.{Refusal}
use Rattle.packet.specs.Said.{number_of}
use Rattle.usb.specs.declared.Setting.{Setting}
use Rattle.description.specs.declared.Both.{Both as Settings}

pub data Described : Type 0 where
  Both : Setting → Setting → Described
  Refused : ℕ → ℕ → Described

-- .. as the code says it
abbrev pub described_said : Result Settings Refusal → Described
described_said (Ok s) = Both s.cmdstim s.resdaq
described_said (Err e) = Refused (number_of e.reason) e.place
