-- What is promised of a call whose caller sees document 01's numbers: one from C, or one that lends the state. The answer behind the numbers keeps what
-- Call promises, and so do they.
use Prim.Native.Nat.{ℕ, ◌<◌, ◌≤◌}
use native.Mathlib.Omega.{arith}
use mathlib.Core.Path.{◌≡◌, refl, sym, ap, ◌∙◌}
use mathlib.Core.Logic.{◌↔◌, ◌⊎◌, inl, inr}
use mathlib.Core.List.{List}
use lib.ListN.{length}
use Rattle.packet.specs.declared.Counter.{Counter}
use Rattle.packet.specs.Reading.{Reading, Reading as R}
use Rattle.packet.specs.Writing.{Writing, Writing as W}
use Rattle.packet.specs.Message.{Msg}
use Rattle.packet.specs.Answer.{Answer, Gives, read_number, read_value, read_state, write_number, write_value, write_counter}
use Rattle.packet.proofs.AnswerLaws.{Exact}
use Rattle.packet.proofs.ReaderLaws.{Rules, Reader}
use Rattle.lent.specs.Told.{Told, told_of, told_number, told_value, Tells}
use Rattle.plumagemud.specs.declared.ReadResult.{ReadResult}
use Rattle.plumagemud.specs.declared.WriteResult.{WriteResult}
use Rattle.plumagemud.specs.Result.{Reads, Writes}
use Rattle.promises.proofs.Call.{Room, Accepts, Given, read_promised}

-- How an answer is told in document 01's numbers: its number, 0 where nothing is refused; its value, which is a count or a refusal's place; and the state
-- or counter that is left of the one given
pub record Telling {E C : Type 0} (refuse : ℕ → ℕ → E) (accept : ℕ → C → E) : Type 0 where
  pub told : C → E → ℕ × ℕ × C
  pub of_refusal : (n p : ℕ) (c : C) → told c (refuse n p) ≡ (n, p, c)
  pub of_acceptance : (k : ℕ) (d c : C) → told c (accept k d) ≡ (0, k, d)
  pub either : (r : E) → ((n : ℕ) × (p : ℕ) × (r ≡ refuse n p)) ⊎ ((k : ℕ) × (d : C) × (r ≡ accept k d))

abbrev either_read : (r : Reading) → ((n : ℕ) × (p : ℕ) × (r ≡ R.Refused n p)) ⊎ ((k : ℕ) × (d : Counter) × (r ≡ R.Rows k d))
either_read (R.Rows k d) = inr (k, d, refl)
either_read (R.Refused n p) = inl (n, p, refl)

abbrev pub reading : Telling R.Refused R.Rows
reading = record {
  told = λ c r. (read_number r, read_value r, read_state c r);
  of_refusal = λ n p c. refl;
  of_acceptance = λ k d c. refl;
  either = either_read;
}

abbrev either_write : (r : Writing) → ((n : ℕ) × (p : ℕ) × (r ≡ W.Refused n p)) ⊎ ((k : ℕ) × (d : ℕ) × (r ≡ W.Bytes k d))
either_write (W.Bytes k d) = inr (k, d, refl)
either_write (W.Refused n p) = inl (n, p, refl)

abbrev pub writing : Telling W.Refused W.Bytes
writing = record {
  told = λ c r. (write_number r, write_value r, write_counter c r);
  of_refusal = λ n p c. refl;
  of_acceptance = λ k d c. refl;
  either = either_write;
}

-- what a contract in numbers says of a call with the state or counter c: it tells number n and value v, leaves d of c, and what was lent at `left`
pub record InNumbers {E C : Type 0} {refuse : ℕ → ℕ → E} {accept : ℕ → C → E} (T : Telling refuse accept) (a : Answer E) (c : C)
    (n v : ℕ) (d : C) (left : List ℕ) : Type 0 where
  pub told : (n, v, d) ≡ T.told c a.answer
  pub lent : left ≡ a.lent

-- What is promised of it: the same as of a call that answers
pub record Numbers {C : Type 0} (Refusal : ℕ → ℕ → Type 0) (Accept : ℕ → C → Type 0) (lent : List ℕ)
    (c : C) (n v : ℕ) (d : C) (left : List ℕ) : Type 0 where
  -- number m and value p are told exactly when the table gives m at p
  pub refused : (m p : ℕ) → 0 < m → ((n ≡ m) × (v ≡ p)) ↔ Refusal m p
  -- a refusal has a number up to 8, and changes nothing of what was lent, the state or counter included
  pub refusal : 0 < n → (n ≤ 8) × (left ≡ lent) × (d ≡ c)
  -- number 0 is told, with value k and with e left, exactly when nothing is refused
  pub accepted : (k : ℕ) (e : C) → ((n ≡ 0) × (v ≡ k) × (d ≡ e)) ↔ Accept k e

module _ {E C : Type 0} {refuse : ℕ → ℕ → E} {accept : ℕ → C → E} {T : Telling refuse accept}
    {a : Answer E} {c : C} {n v : ℕ} {d : C} {left : List ℕ} (g : InNumbers T a c n v d left) where
  -- the answer behind the numbers
  pub behind-numbers : Gives a a.answer left
  behind-numbers = record { answer = refl; lent = g.lent }

  told_as : {m p : ℕ} {e : C} → T.told c a.answer ≡ (m, p, e) → (n ≡ m) × (v ≡ p) × (d ≡ e)
  told_as x = let y = g.told ∙ x in (ap (λ z. z.0) y, ap (λ z. z.1) y, ap (λ z. z.2) y)

  of_refusal : {m p : ℕ} → a.answer ≡ refuse m p → (n ≡ m) × (v ≡ p) × (d ≡ c)
  of_refusal {m} {p} e = told_as (ap (T.told c) e ∙ T.of_refusal m p c)

  pub of_acceptance : {k : ℕ} {e : C} → a.answer ≡ accept k e → (n ≡ 0) × (v ≡ k) × (d ≡ e)
  of_acceptance {k} {e} x = told_as (ap (T.told c) x ∙ T.of_acceptance k e c)

  module _ {Refusal : ℕ → ℕ → Type 0} {Accept : ℕ → C → Type 0} {lent : List ℕ} (h : Exact refuse accept Refusal Accept lent a) where
    abbrev Either : Type 0
    Either = ((m : ℕ) × (p : ℕ) × (a.answer ≡ refuse m p)) ⊎ ((k : ℕ) × (e : C) × (a.answer ≡ accept k e))

    -- number 0 tells an acceptance, with that value and with d left
    accepted_answer : n ≡ 0 → a.answer ≡ accept v d
    accepted_answer z = at (T.either a.answer)
      where
        at : Either → a.answer ≡ accept v d
        at (inl (i, q, y)) = absurd (omega (arith, (of_refusal y).0, h.number i q ((h.refused i q).0 y)))
        at (inr (i, f, y)) = let (o, count, counter) = of_acceptance y in rw (count, counter) y

    -- so what is promised of a call that answers so is promised of this one
    pub accepted_gives : n ≡ 0 → Gives a (accept v d) left
    accepted_gives z = record { answer = sym (accepted_answer z); lent = g.lent }

    pub numbers_promised : Numbers Refusal Accept lent c n v d left
    numbers_promised =
        record {
          refused = λ m p l. (λ x. (h.refused m p).0 (refuses m p l x (T.either a.answer)), λ y. told (of_refusal ((h.refused m p).1 y)));
          refusal = unchanged (T.either a.answer);
          accepted = λ k e. (accepts k e, λ y. of_acceptance ((h.accepted k e).1 y));
        }
      where
        told : {m p : ℕ} → (n ≡ m) × (v ≡ p) × (d ≡ c) → (n ≡ m) × (v ≡ p)
        told x = (x.0, x.1)

        refuses : (m p : ℕ) → 0 < m → (n ≡ m) × (v ≡ p) → Either → a.answer ≡ refuse m p
        refuses m p l x (inl (i, q, e)) =
            let (y, z, o) = of_refusal e in
            let number : i ≡ m = sym y ∙ x.0 in
            let place : q ≡ p = sym z ∙ x.1 in
            rw (← number, ← place) e
        refuses m p l x (inr (k, e, y)) = absurd (omega (arith, (of_acceptance y).0, x.0))

        unchanged : Either → 0 < n → (n ≤ 8) × (left ≡ lent) × (d ≡ c)
        unchanged (inl (i, q, e)) l =
            let (y, z, o) = of_refusal e in
            let (least, most) = h.number i q ((h.refused i q).0 e) in
            (omega arith, g.lent ∙ h.keeps i q e, o)
        unchanged (inr (k, e, y)) l = absurd (omega (arith, (of_acceptance y).0))

        accepts : (k : ℕ) (e : C) → (n ≡ 0) × (v ≡ k) × (d ≡ e) → Accept k e
        accepts k e x =
            let (zero, count, counter) = x in
            (h.accepted k e).0 (rw (← count, ← counter) (accepted_answer zero))

---- Readers --------------------------------------------------------------------------------------------------------------------

-- a read gives the messages ms too, where it is accepted
pub record ReadNumbers {input table : List ℕ} (S : Rules input table) (c : Counter) (n v : ℕ) (d : Counter) (left : List ℕ) : Type 0 where
  pub numbers : Numbers S.Refusal (Accepts S) table c n v d left
  pub gives : (ms : List Msg) → S.Fine → S.Whole ms → Room S ms → (n ≡ 0) × (v ≡ length ms) × (d ≡ S.state ms) × Given S left ms

pub read_numbers : {input table : List ℕ} {S : Rules input table} {a : Answer Reading} {c : Counter} {n v : ℕ} {d : Counter} {left : List ℕ}
    → Reader S a → InNumbers reading a c n v d left → ReadNumbers S c n v d left
read_numbers x g =
    record {
      numbers = numbers_promised g x.exact;
      gives = λ ms f w l.
          let (told, given) = (read_promised x (behind-numbers g)).gives ms f w l in
          let (y, z, o) = of_acceptance g told in
          (y, z, o, given);
    }

---- Who sees numbers -----------------------------------------------------------------------------------------------------------

lent-told : (c : Counter) (r : Reading) → (told_number (told_of r), told_value (told_of r), read_state c r) ≡ reading.told c r
lent-told c (R.Rows k d) = refl
lent-told c (R.Refused n p) = refl

-- a caller that lends the state
pub lent-numbers : {a : Answer Reading} {c : Counter} {u : Told} {d : Counter} {left : List ℕ} → Tells a c u d left
    → InNumbers reading a c (told_number u) (told_value u) d left
lent-numbers {a} {c} g = record { told = rw (g.told, g.state) (lent-told c a.answer); lent = g.lent }

-- a caller from C
pub c_reads : {a : Answer Reading} {c : Counter} {x : ReadResult} {left : List ℕ} → Reads a c x left
    → InNumbers reading a c x.number x.value x.counter left
c_reads g = record { told = ap (λ x. (x.number, x.value, x.counter)) g.result; lent = g.rows }

pub c_writes : {a : Answer Writing} {c : ℕ} {x : WriteResult} {left : List ℕ} → Writes a c x left
    → InNumbers writing a c x.number x.value x.counter left
c_writes g = record { told = ap (λ x. (x.number, x.value, x.counter)) g.result; lent = g.out }
