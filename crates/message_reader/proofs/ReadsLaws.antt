-- Where the loops start, what is judged, and the answer to a state that is not valid or an input that is too long.
use Prim.Native.Nat.{ℕ, ◌+◌, ◌*◌, ◌<◌, ◌≤◌}
use native.Mathlib.Omega.{arith}
use mathlib.Core.Path.{◌≡◌, refl, sym, ◌∙◌}
use mathlib.Core.Bool.{cond, Bool, true, false}
use mathlib.Core.List.{List}
use lib.ListN.{length}
use lib.Dec.{eqb}
use borrow.Author.Rules.{rules}
use borrow.Author.Tests.{eqb-false, ltb-true, ltb-false, lt-ltb, le-ltb, eq-eqb}
use Rattle.packet.specs.declared.Counter.{Counter}
use Rattle.packet.specs.Reading.{Reading, Reading as R}
use Rattle.packet.specs.Answer.{Gives, bounded}
use Rattle.packet.specs.Counter.{valid}
use Rattle.packet.specs.Limit.{most_bytes}
use Rattle.packet.proofs.AnswerLaws.{gives, gives_so}
use Rattle.plan.specs.declared.Plan.{Plan}
use Rattle.plan.specs.Plan.{most_of, Cased, Messages}
use Rattle.plan.proofs.CaseLaws.{by_test}
use Rattle.reading.specs.Loops.{Standing}
use Rattle.reading.specs.Reads.{reads}
use Rattle.rows.specs.Count.{Judged.Rows, Judged.Refused}
use Rattle.rows.specs.Count.{JudgedAs}
use Rattle.rows.specs.Fill.{Filled.filled, filling}
use Rattle.rows.proofs.AnswerLaws.{not_judged, is-refused, is_crowded, is-given}
use Rattle.rows.proofs.CounterLaws.{sane}
use Rattle.message_reader.specs.Reads.{first, answer_to, answer_by, Kind, Packed, Begun, Roomy}

---- The start ------------------------------------------------------------------------------------------------------------------

module _ {p : Plan} (t : List ℕ) (k : Messages p) (l : length t ≤ most_of p) where
  -- a datagram is one data packet
  one-packet : 2 < p.layout → length t ≤ p.datapacket
  one-packet h = rw (eq-eqb p.layout 4 (sym (k.datagram h).layout_is)) at l

  not_long : length t ≤ most_bytes
  not_long = by_test (eqb p.layout 4) (λ g. omega (arith, rw g at l, k.sized.cut_most)) (λ g. rw g at l)

  pub first-standing : Standing p t (first p)
  first-standing = let n = not_long in let w = one-packet in search rules

---- The case that a function is told -------------------------------------------------------------------------------------------

-- the tests leave one number
pub only : (l n : ℕ) → l ≤ n → n < l + 1 → l ≡ n
only l n h i = omega arith

module _ {p : Plan} {d : Bool} (k : Kind d p) where
  pub in_datagram : d ≡ true → Cased 4 2 2 4 1 p
  in_datagram e = k.messages.datagram (ltb-true 2 p.layout (sym k.is ∙ e))

  module _ (e : d ≡ false) where
    packets : p.layout < 3
    packets = let g = ltb-false 2 p.layout (sym k.is ∙ e) in omega arith

    module _ {l : ℕ} (i : l ≡ p.lenwidth) where
      pub packed : Packed l p.ctrwidth p
      packed =
          let m = k.messages in
          let g = packets in
          record { layout = g; lenwidth-is = i; ctrwidth-is = refl; small = omega arith; full = λ h. omega arith }

      pub packed-bare : p.ctrwidth ≡ 0 → Packed l 0 p
      packed-bare z =
          let m = k.messages in
          let g = packets in
          record { layout = g; lenwidth-is = i; ctrwidth-is = sym z; small = omega arith; full = λ h. absurd (omega arith) }

      pub packed-full : (p.ctrwidth ≡ 0 → ⊥) → Packed l l p
      packed-full z =
          let m = k.messages in
          let g = packets in
          record { layout = g; lenwidth-is = i; ctrwidth-is = omega arith; small = omega arith; full = λ h. omega arith }

module _ {l lenwidth ctrwidth : ℕ} {p : Plan} (k : Packed lenwidth ctrwidth p) (e : l ≡ p.layout) where
  pub in-layout : Cased l lenwidth ctrwidth p.size p.align p
  in-layout = record { layout_is = e; lenwidth-is = k.lenwidth-is; ctrwidth-is = k.ctrwidth-is; size_is = refl; align_is = refl }

  pub in-full : {size : ℕ} → size ≡ cond (eqb ctrwidth 0) p.size (lenwidth + ctrwidth) → Cased l lenwidth ctrwidth size p.align p
  in-full f =
      record {
        layout_is = e;
        lenwidth-is = k.lenwidth-is;
        ctrwidth-is = k.ctrwidth-is;
        size_is = f ∙ by_test (eqb ctrwidth 0) (λ g. rw g) (λ g. rw g (k.full (let z = eqb-false _ _ g in omega arith)));
        align_is = refl;
      }

pub ruleset cases = (in_datagram, packed, packed-bare, packed-full, in-layout, in-full)

---- What is read ---------------------------------------------------------------------------------------------------------------

module _ (p : Plan) (t : List ℕ) (c : Counter) (rows : List ℕ) where
  -- a refusal with n at q, which leaves the table
  abbrev Refuses : (n q : ℕ) → Type 0
  Refuses n q = Gives (answer_by p t c rows) (R.Refused n q) rows

  -- a state that is not valid
  pub not-valid : false ≡ valid p.ctrwidth c → Refuses 1 0
  unfolding answer_by
  not-valid e = gives (rw (← e) (not_judged _ _ _ _ _))

  module _ (e : true ≡ valid p.ctrwidth c) where
    -- too many bytes
    pub long : most_of p < length t → Refuses 2 0
    unfolding answer_by bounded
    long l = gives (rw (← e, lt-ltb (most_of p) (length t) l) (not_judged _ _ _ _ _))

    -- else the answer is that of what is read
    module _ (l : length t ≤ most_of p) where
      read_so : {a : Reading} {new : List ℕ} → Gives (answer_to p t c rows) a new → Gives (answer_by p t c rows) a new
      unfolding answer_by bounded
      read_so = gives_so (rw (← e, le-ltb (most_of p) (length t) l))

      pub refused-so : {n q : ℕ} → JudgedAs 0 (reads p t (first p)) (length t) (Refused n q) → Refuses n q
      refused-so g = read_so (is-refused _ _ rows g (record { answer = refl; lent = refl }))

      -- the table has no room for the rows
      pub crowded : {k : ℕ} → JudgedAs 0 (reads p t (first p)) (length t) (Rows k) → length rows < 5 * k → Refuses 4 0
      crowded g u = read_so (is_crowded _ _ rows g u (record { answer = refl; lent = refl }))

pub rows-given : (p : Plan) (t : List ℕ) (c : Counter) (rows : List ℕ) → true ≡ valid p.ctrwidth c → length t ≤ most_of p → {k : ℕ}
    → JudgedAs 0 (reads p t (first p)) (length t) (Rows k) → 5 * k ≤ length rows → {new : List ℕ} {d : Counter}
    → filled new d ≡ filling p.direction p.ctrwidth rows 0 c (reads p t (first p)) → Gives (answer_by p t c rows) (R.Rows k d) new
rows-given p t c rows e l g u x = read_so p t c rows e l (is-given _ _ rows g u x)

pub begun : {p : Plan} {t : List ℕ} {d : Bool} → Kind d p → length t ≤ most_of p → Begun d p t
begun {t = t} k l = let s = first-standing t k.messages l in search rules

pub roomy : {p : Plan} {t : List ℕ} {c : Counter} {d : Bool} {k n : ℕ} → Kind d p → true ≡ valid p.ctrwidth c → length t ≤ most_of p
    → JudgedAs 0 (reads p t (first p)) (length t) (Rows k) → 5 * k ≤ n → Roomy d p t c k n
roomy {t = t} k e l g u =
    let r = sane (sym e) in
    let s = first-standing t k.messages l in
    let m = not_long t k.messages l in
    record { kind = k; start = record { standing = s; sane = r; rows = g.is; few = omega (arith, g.small); room = u } }
