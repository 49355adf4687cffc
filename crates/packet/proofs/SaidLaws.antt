-- What the code says is told apart by what the definitions make of it.
use Rattle.std.proofs.Common.{◌≡◌, ℕ, [], ◌∷◌, get_or, refl, sym, ap, ◌∙◌}
use Rattle.std.specs.Prelude.{Option, Some, None, Result, Ok, Err}
use Rattle.packet.specs.declared.Reason.{Reason}
use Rattle.packet.specs.declared.Reason.TheVariants as Y
use Rattle.packet.specs.declared.PacketKind.{PacketKind}
use Rattle.packet.specs.declared.PacketKind.TheVariants as K
use Rattle.packet.specs.declared.Refusal.{Refusal}
use Rattle.packet.specs.declared.Rows.{Rows}
use Rattle.packet.specs.declared.Written.{Written}
use Rattle.packet.specs.Part.{Checked}
use Rattle.packet.specs.Reading.{Reading, Reading as R}
use Rattle.packet.specs.Writing.{Writing, Writing as W}
use Rattle.packet.specs.Said.{number_of, kind_said, read_said, write_said, check_said}

---- Numbers --------------------------------------------------------------------------------------------------------------------

-- the reason with this number
abbrev pub reason_at : ℕ → Reason
reason_at n =
    get_or (Y.Unsound ∷ Y.Unsound ∷ Y.Mismatch ∷ Y.Overlong ∷ Y.NoRoom ∷ Y.Cut ∷ Y.Missing ∷ Y.Foreign ∷ Y.Misframed ∷ []) n Y.Misplaced

pub reason_back : (r : Reason) → reason_at (number_of r) ≡ r
reason_back Y.Unsound = refl
reason_back Y.Mismatch = refl
reason_back Y.Overlong = refl
reason_back Y.NoRoom = refl
reason_back Y.Cut = refl
reason_back Y.Missing = refl
reason_back Y.Foreign = refl
reason_back Y.Misframed = refl
reason_back Y.Misplaced = refl

abbrev kind_at : ℕ → Option PacketKind
kind_at n =
    get_or
    (None ∷ Some K.Response ∷ Some K.Error ∷ Some K.Event ∷ Some K.Service ∷ Some K.Data ∷ Some K.Command ∷ [])
    n (Some K.Stimulation)

kind_back : (k : Option PacketKind) → kind_at (kind_said k) ≡ k
kind_back None = refl
kind_back (Some K.Response) = refl
kind_back (Some K.Error) = refl
kind_back (Some K.Event) = refl
kind_back (Some K.Service) = refl
kind_back (Some K.Data) = refl
kind_back (Some K.Command) = refl
kind_back (Some K.Stimulation) = refl

pub kind_only : {k u : Option PacketKind} → kind_said k ≡ kind_said u → k ≡ u
kind_only {k} {u} e = sym (kind_back k) ∙ ap kind_at e ∙ kind_back u

---- Answers --------------------------------------------------------------------------------------------------------------------

-- what was said, from the definitions' answer
abbrev read_at : Reading → Result Rows Refusal
read_at (R.Rows k c) = Ok (record { count = k; state = c })
read_at (R.Refused n p) = Err (record { reason = reason_at n; place = p })

pub read_only : {r u : Result Rows Refusal} → read_said r ≡ read_said u → r ≡ u
read_only {r} {u} e = sym (back r) ∙ ap read_at e ∙ back u
  where
    back : (x : Result Rows Refusal) → read_at (read_said x) ≡ x
    back (Ok k) = refl
    back (Err y) = ap (λ a. Err (record { reason = a; place = y.place })) (reason_back y.reason)

abbrev write_at : Writing → Result Written Refusal
write_at (W.Bytes k d) = Ok (record { bytes = k; next = d })
write_at (W.Refused n p) = Err (record { reason = reason_at n; place = p })

pub write_only : {r u : Result Written Refusal} → write_said r ≡ write_said u → r ≡ u
write_only {r} {u} e = sym (back r) ∙ ap write_at e ∙ back u
  where
    back : (x : Result Written Refusal) → write_at (write_said x) ≡ x
    back (Ok k) = refl
    back (Err y) = ap (λ a. Err (record { reason = a; place = y.place })) (reason_back y.reason)

abbrev check_at : Checked → Result (Unit {0}) Refusal
check_at Checked.Inside = Ok tt
check_at (Checked.Refused n p) = Err (record { reason = reason_at n; place = p })

pub check_only : {r u : Result (Unit {0}) Refusal} → check_said r ≡ check_said u → r ≡ u
check_only {r} {u} e = sym (back r) ∙ ap check_at e ∙ back u
  where
    back : (x : Result (Unit {0}) Refusal) → check_at (check_said x) ≡ x
    back (Ok u) = refl
    back (Err y) = ap (λ a. Err (record { reason = a; place = y.place })) (reason_back y.reason)
