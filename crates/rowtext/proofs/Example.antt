-- The program's text for the 12 bytes of document 01, for an input that is refused, and for none: computed.
use Prim.Native.Nat.{ℕ}
use mathlib.Core.Path.{◌≡◌, refl}
use mathlib.Core.List.{List, [], ◌∷◌, map}
use Rattle.layout.specs.Multiple.{pad}
use Rattle.layout.specs.Walk.{walk, go}
use Rattle.packet.specs.Answer.{bounded}
use Rattle.packet.specs.Counter.{gap, next, later, advance}
use Rattle.packet.specs.Row.{row, table}
use Rattle.usb.specs.Setting as U
use Rattle.usb.specs.Reading as R
use Rattle.spelling.specs.Text.{spelled, decimal}
use Rattle.rowtext.specs.Text.{lines, program_text}

abbrev inputs : List (List ℕ)
inputs = (1 ∷ 254 ∷ 255 ∷ 238 ∷ 3 ∷ 255 ∷ 1 ∷ 2 ∷ 3 ∷ 238 ∷ 238 ∷ 238 ∷ []) ∷ (65 ∷ 0 ∷ []) ∷ [] ∷ []

-- `2 1 254 0 1` and `6 3 255 0 5`; `refused 3 0`; nothing
abbrev texts : List (List ℕ)
texts =
    (50 ∷ 32 ∷ 49 ∷ 32 ∷ 50 ∷ 53 ∷ 52 ∷ 32 ∷ 48 ∷ 32 ∷ 49 ∷ 10
    ∷ 54 ∷ 32 ∷ 51 ∷ 32 ∷ 50 ∷ 53 ∷ 53 ∷ 32 ∷ 48 ∷ 32 ∷ 53 ∷ 10 ∷ [])
    ∷ (114 ∷ 101 ∷ 102 ∷ 117 ∷ 115 ∷ 101 ∷ 100 ∷ 32 ∷ 51 ∷ 32 ∷ 48 ∷ 10 ∷ [])
    ∷ []
    ∷ []

pub printed : map program_text inputs ≡ texts
unfolding pad walk go bounded gap next later advance row table U.headers U.sound R.len_at R.judge R.seen R.ahead R.judged
    spelled decimal lines program_text
printed = refl
