-- What the code says of a text is told apart by what is described.
use Rattle.std.proofs.Common.{◌≡◌, sym, refl, ap, ◌∙◌}
use Rattle.std.specs.Prelude.{Result, Ok, Err}
use Rattle.packet.specs.declared.Refusal.{Refusal}
use Rattle.packet.proofs.SaidLaws.{reason_at, reason_back}
use Rattle.description.specs.declared.Both.{Both}
use Rattle.description.specs.Described.{Described, Described as D, described_said}

abbrev described_at : Described → Result Both Refusal
described_at (D.Both c r) = Ok (record { cmdstim = c; resdaq = r })
described_at (D.Refused n p) = Err (record { reason = reason_at n; place = p })

pub described_only : {r u : Result Both Refusal} → described_said r ≡ described_said u → r ≡ u
described_only {r} {u} e = sym (back r) ∙ ap described_at e ∙ back u
  where
    back : (x : Result Both Refusal) → described_at (described_said x) ≡ x
    back (Ok s) = refl
    back (Err y) = ap (λ a. Err (record { reason = a; place = y.place })) (reason_back y.reason)
