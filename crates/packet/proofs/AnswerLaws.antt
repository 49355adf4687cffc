-- What was judged decides the answer: why a call is refused, why it is not, and that a refusal changes nothing. Once for every reader and writer.
use Rattle.std.proofs.Common.{◌≡◌, ℕ, ◌+◌, ◌<◌, ◌≤◌, Bool, true, false, cond, ◌↔◌, List}
use Rattle.std.proofs.Common.{length, take, drop, sym, refl, ap, ◌∙◌, zero-add, arith, take_at, drop_at}
use lib.Seq.{sets, sets-eq}
use Rattle.layout.specs.Walk.{Out, Out.list, Out.refused}
use Rattle.packet.specs.Answer.{Answer, Gives, settled}

---- Every call -----------------------------------------------------------------------------------------------------------------

module _ {E : Type 0} {a : Answer E} where
  pub gives : {r : E} {left : List ℕ} → a ≡ record { answer = r; lent = left } → Gives a r left
  gives e = record { answer = sym (ap (λ x. x.answer) e); lent = sym (ap (λ x. x.lent) e) }

  -- what gives one answer gives any that is equal to it
  pub gives_so : {b : Answer E} → a ≡ b → {r : E} {left : List ℕ} → Gives b r left → Gives a r left
  gives_so e g = rw e g

  -- any two results that a contract allows are equal
  pub one-result : {r u : E} {left past : List ℕ} → Gives a r left → Gives a u past → (r ≡ u) × (left ≡ past)
  one-result g h = (g.answer ∙ sym h.answer, g.lent ∙ sym h.lent)

  -- when the answer is x, any answer that a contract allows is
  pub exactly : {r : E} {left : List ℕ} → Gives a r left → {x : E} {P : Type 0} → (a.answer ≡ x) ↔ P → (r ≡ x) ↔ P
  exactly g e = (λ h. e.0 (sym g.answer ∙ h), λ p. g.answer ∙ e.1 p)

-- What the laws of a transport say of the answer a of a call that was lent a table or an output: it is refused with n at p exactly where `Refusal n p` holds,
-- that is with one of document 01's numbers, and leaves what was lent; it is accepted with k and d exactly where `Accept k d` holds
pub record Exact {E C : Type 0} (refuse : ℕ → ℕ → E) (accept : ℕ → C → E) (Refusal : ℕ → ℕ → Type 0) (Accept : ℕ → C → Type 0)
    (lent : List ℕ) (a : Answer E) : Type 0 where
  pub refused : (n p : ℕ) → (a.answer ≡ refuse n p) ↔ Refusal n p
  pub number : (n p : ℕ) → Refusal n p → (0 < n) × (n ≤ 8)
  pub keeps : (n p : ℕ) → a.answer ≡ refuse n p → a.lent ≡ lent
  pub accepted : (k : ℕ) (d : C) → (a.answer ≡ accept k d) ↔ Accept k d

-- why a call is refused with n at p: it was judged so, or the lent numbers are too few
pub data Unsettled {R : Type 0} (few : List R → Bool) : ℕ → ℕ → Out R → Type 0 where
  judged : {n p : ℕ} → Unsettled few n p (refused n p)
  crowded : {xs : List R} → few xs ≡ true → Unsettled few 4 0 (list xs)

-- why it is accepted with the answer a
pub record Settled {R E : Type 0} (accept : List R → E) (few : List R → Bool) (a : E) (o : Out R) : Type 0 where
  pub list : List R
  pub judged : o ≡ Out.list list
  pub enough : few list ≡ false
  pub told : a ≡ accept list

-- refusals tell their number and place, and are told from acceptances
pub record Apart {R E : Type 0} (refuse : ℕ → ℕ → E) (accept : List R → E) : Type 0 where
  pub number : {n p m q : ℕ} → refuse n p ≡ refuse m q → n ≡ m
  pub place : {n p m q : ℕ} → refuse n p ≡ refuse m q → p ≡ q
  pub never : {n p : ℕ} {xs : List R} → refuse n p ≡ accept xs → ⊥

module _ {R E : Type 0} (refuse : ℕ → ℕ → E) (accept : List R → E) (few : List R → Bool) (told : List R → List ℕ) (lent : List ℕ) where
  abbrev refusal : ℕ → ℕ → Answer E
  refusal n p = record { answer = refuse n p; lent = lent }

  abbrev acceptance : List R → Answer E
  acceptance xs = record { answer = accept xs; lent = sets lent 0 (told xs) }

  pub refuses : {n p : ℕ} {o : Out R} → Unsettled few n p o → settled refuse accept few told lent o ≡ refusal n p
  unfolding settled
  refuses judged = refl
  refuses (crowded {xs = xs} h) = rw h

  pub accepts : (xs : List R) → few xs ≡ false → settled refuse accept few told lent (list xs) ≡ acceptance xs
  unfolding settled
  accepts xs h = rw h

  -- each answer with its reason
  data Reason : Out R → Answer E → Type 0 where
    unsettled : {n p : ℕ} {o : Out R} → Unsettled few n p o → Reason o (refusal n p)
    accepted : {xs : List R} → few xs ≡ false → Reason (list xs) (acceptance xs)

  reason : (o : Out R) → Reason o (settled refuse accept few told lent o)
  unfolding settled
  reason (refused n p) = unsettled judged
  reason (list xs) = at (few xs) refl
    where
      at : (b : Bool) → few xs ≡ b → Reason (list xs) (cond b (refusal 4 0) (acceptance xs))
      at true g = unsettled (crowded g)
      at false g = accepted g

  module _ (apart : Apart refuse accept) where
    refusing : {n p : ℕ} {o : Out R} {r : Answer E} → Reason o r → r.answer ≡ refuse n p → Unsettled few n p o
    refusing {n} {p} (unsettled {n = m} {p = q} u) e =
        let a : m ≡ n = apart.number e in
        let b : q ≡ p = apart.place e in
        rw (← a, ← b) u
    refusing (accepted h) e = absurd (apart.never (sym e))

    accepting : {a : E} {o : Out R} {r : Answer E} → ((n p : ℕ) → refuse n p ≡ a → ⊥) → Reason o r → r.answer ≡ a → Settled accept few a o
    accepting differs (unsettled u) e = absurd (differs _ _ e)
    accepting differs (accepted {xs = xs} h) e = record { list = xs; judged = refl; enough = h; told = sym e }

    keeping : {n p : ℕ} {o : Out R} {r : Answer E} → Reason o r → r.answer ≡ refuse n p → r.lent ≡ lent
    keeping (unsettled u) e = refl
    keeping (accepted h) e = absurd (apart.never (sym e))

    pub why_refused : {n p : ℕ} (o : Out R) → (settled refuse accept few told lent o).answer ≡ refuse n p → Unsettled few n p o
    why_refused o = refusing (reason o)

    -- a refusal leaves what was lent
    pub keeps : {n p : ℕ} (o : Out R) → (settled refuse accept few told lent o).answer ≡ refuse n p
        → (settled refuse accept few told lent o).lent ≡ lent
    keeps o = keeping (reason o)

    pub why_accepted : {a : E} (o : Out R) → ((n p : ℕ) → refuse n p ≡ a → ⊥) → (settled refuse accept few told lent o).answer ≡ a
        → Settled accept few a o
    why_accepted o differs = accepting differs (reason o)

---- What was lent --------------------------------------------------------------------------------------------------------------

module _ (lent new : List ℕ) (fits : length new ≤ length lent) where
  -- what is put at the front of what was lent stands there
  pub put_front : take (length new) (sets lent 0 new) ≡ new
  put_front = rw (sets-eq new lent 0 (omega arith)) (take_at new (drop (0 + length new) lent) (length new) refl)

  -- and what is behind it is unchanged
  pub kept_behind : drop (length new) (sets lent 0 new) ≡ drop (length new) lent
  kept_behind =
      rw (sets-eq new lent 0 (omega arith)) (drop_at new (drop (0 + length new) lent) (length new) refl ∙ rw (zero-add (length new)))
