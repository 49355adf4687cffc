-- What a read's answer says, and what is told of the input. No definition says which bytes come.
use Rattle.std.specs.Prelude.{ℕ, ◌≤◌, min, List, Result, Ok, Err, length}

-- an error is a failure; any other answer says how many bytes came, 0 that the input ends
abbrev pub input_of : {E : Type 0} → Result ℕ E → ℕ → Result ℕ E
input_of (Ok n) room = Ok (min n room)
input_of (Err e) room = Err e

-- the bytes stand at the front of the buffer
abbrev pub Held : {E : Type 0} → Result ℕ E → List ℕ → Type 0
Held (Ok n) buffer = n ≤ length buffer
Held (Err e) buffer = Unit {0}
