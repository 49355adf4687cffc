-- What is promised of xcp_usb_settings: of any result y of numbers that its contract allows for the text t and the longest packet x.
use Prim.Native.Nat.{ℕ, ◌<◌}
use native.Mathlib.Omega.{arith}
use mathlib.Core.Path.{◌≡◌, sym, ap, ◌∙◌, subst₂}
use mathlib.Core.Logic.{◌↔◌}
use mathlib.Core.List.{List}
use Rattle.usb.specs.declared.Setting.{Setting}
use Rattle.description.specs.Described.{Described}
use Rattle.description.specs.Standing.{Refusal, Accept}
use Rattle.description.specs.Reading.{settings_of}
use Rattle.description.proofs.AnswerLaws.{Answered, answered, answer-is}
use Rattle.plumagemud.specs.declared.SettingsResult.{SettingsResult}
use Rattle.plumagemud.specs.Result.{zero_setting, settings_result}
use Rattle.promises.proofs.Fitting.{refusal-some}

module _ (t : List ℕ) (x : ℕ) where
  -- what xcp_usb_settings may answer
  abbrev pub Tells : SettingsResult → Type 0
  Tells y = y ≡ settings_result (settings_of t x)

  pub record Numbers (y : SettingsResult) : Type 0 where
    -- number 0 is told, with place 0 and the settings c and d, exactly if they are accepted
    pub accepted : (c d : Setting) → ((y.number ≡ 0) × (y.cmdstim ≡ c) × (y.resdaq ≡ d)) ↔ Accept t x c d
    pub place : y.number ≡ 0 → y.place ≡ 0
    -- a number n above 0 is told, with place p, exactly if the text is refused with n at p; and then all twelve numbers of the settings are 0
    pub refused : (n p : ℕ) → 0 < n → ((y.number ≡ n) × (y.place ≡ p)) ↔ Refusal t x n p
    pub refusal : 0 < y.number → (y.cmdstim ≡ zero_setting) × (y.resdaq ≡ zero_setting)

  module _ {y : SettingsResult} (call : Tells y) where
    told : {o : Described} → Answered t x o → let z = settings_result o in
        (y.number ≡ z.number) × (y.place ≡ z.place) × (y.cmdstim ≡ z.cmdstim) × (y.resdaq ≡ z.resdaq)
    told a =
        let e = call ∙ ap settings_result (answer-is t x a) in
        (ap (λ z. z.number) e, ap (λ z. z.place) e, ap (λ z. z.cmdstim) e, ap (λ z. z.resdaq) e)

    of_acceptance : {c d : Setting} → Accept t x c d → (y.number ≡ 0) × (y.place ≡ 0) × (y.cmdstim ≡ c) × (y.resdaq ≡ d)
    of_acceptance a = told (Answered.both a)

    of_refusal : {n p : ℕ} → Refusal t x n p → (y.number ≡ n) × (y.place ≡ p) × (y.cmdstim ≡ zero_setting) × (y.resdaq ≡ zero_setting)
    of_refusal h = told (Answered.refused h)

    accepts : (c d : Setting) → Accept t x c d → (y.number ≡ 0) × (y.cmdstim ≡ c) × (y.resdaq ≡ d)
    accepts c d a = let (n, p, e, f) = of_acceptance a in (n, e, f)

    refuses : (n p : ℕ) → Refusal t x n p → (y.number ≡ n) × (y.place ≡ p)
    refuses n p h = let (e, f, c, d) = of_refusal h in (e, f)

    by : {o : Described} → Answered t x o → Numbers y
    by (Answered.both k) =
        let (n, p, c, d) = of_acceptance k in
        record {
          accepted = λ e f. (λ h. subst₂ (Accept t x) (sym c ∙ h.1) (sym d ∙ h.2) k, accepts e f);
          place = λ z. p;
          refused = λ m q l. (λ h. absurd (omega (arith, n, h.0, l)), refuses m q);
          refusal = λ l. absurd (omega (arith, n, l));
        }
    by (Answered.refused k) =
        let (n, p, c, d) = of_refusal k in
        let l = refusal-some k in
        record {
          accepted = λ e f. (λ h. absurd (omega (arith, n, h.0, l)), accepts e f);
          place = λ z. absurd (omega (arith, n, l, z));
          refused = λ m q i. (λ h. subst₂ (Refusal t x) (sym n ∙ h.0) (sym p ∙ h.1) k, refuses m q);
          refusal = λ z. (c, d);
        }

    pub numbers : Numbers y
    numbers = by (answered t x)
