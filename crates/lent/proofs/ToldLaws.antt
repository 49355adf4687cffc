-- What a caller that lends its state is told.
use Rattle.std.proofs.Common.{◌≡◌, ℕ, List, sym, refl, ap, ◌∙◌}
use Rattle.std.specs.Prelude.{Result, Ok, Err}
use Rattle.packet.specs.declared.Counter.{Counter}
use Rattle.packet.specs.declared.Refusal.{Refusal}
use Rattle.packet.specs.Reading.{Reading, Reading as R}
use Rattle.packet.specs.Answer.{Answer, read_number, read_value}
use Rattle.packet.proofs.SaidLaws.{reason_at, reason_back}
use Rattle.lent.specs.Told.{Told, told_said, told_of, told_number, told_value, Tells}

-- it is told the number and the value of the answer
pub told_is : (r : Reading) → (told_number (told_of r) ≡ read_number r) × (told_value (told_of r) ≡ read_value r)
told_is (R.Rows k d) = (refl, refl)
told_is (R.Refused n p) = (refl, refl)

-- any two results that its contract allows are equal
pub one_telling : {a : Answer Reading} {c : Counter} {r u : Told} {d e : Counter} {left past : List ℕ} → Tells a c r d left
    → Tells a c u e past → (r ≡ u) × (d ≡ e) × (left ≡ past)
one_telling g h = (g.told ∙ sym h.told, g.state ∙ sym h.state, g.lent ∙ sym h.lent)

-- what the code says is told apart by what is told
abbrev told_at : Told → Result ℕ Refusal
told_at (Told.Rows k) = Ok k
told_at (Told.Refused n p) = Err (record { reason = reason_at n; place = p })

pub told_only : {r u : Result ℕ Refusal} → told_said r ≡ told_said u → r ≡ u
told_only {r} {u} e = sym (back r) ∙ ap told_at e ∙ back u
  where
    back : (x : Result ℕ Refusal) → told_at (told_said x) ≡ x
    back (Ok k) = refl
    back (Err y) = ap (λ a. Err (record { reason = a; place = y.place })) (reason_back y.reason)
