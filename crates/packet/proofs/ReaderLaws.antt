-- Why a reader refuses, and why it accepts: by its counter, by what was judged, and by its table.
use Rattle.std.proofs.Common.{◌≡◌, ℕ, ◌*◌, ◌<◌, ◌≤◌, Bool, true, false, cond, List}
use Rattle.std.proofs.Common.{length, take, drop, refl, ap, arith, ltb-false, ltb-true, le-ltb, lt-ltb}
use lib.Seq.{sets}
use Rattle.layout.specs.Walk.{Out, Out.list, Out.refused}
use Rattle.packet.specs.declared.Counter.{Counter}
use Rattle.packet.specs.Reading.{Reading, Reading as R}
use Rattle.packet.specs.Message.{Msg}
use Rattle.packet.specs.Answer.{read_number, read_value, read_state, Answer, read_refused, settled, few_numbers, answered, Accepted}
use Rattle.packet.proofs.AnswerLaws.{Exact, Unsettled, Settled, Apart, refuses, accepts, why_refused, why_accepted, keeps, put_front, kept_behind}
use Rattle.packet.proofs.PacketsLaws.{Each}
use Rattle.packet.proofs.SeenLaws.{Shown}

apart_read : {state : List Msg → Counter} → Apart R.Refused (λ ms. R.Rows (length ms) (state ms))
apart_read = record { number = λ e. cc; place = λ e. cc; never = λ e. let z : ◌≡◌ {A = ℕ} 0 1 = cc in omega arith }

-- why a reader refuses with n at p
pub data Unread (numbers : ℕ) (held : Bool) (o : Out Msg) : ℕ → ℕ → Type 0 where
  over : held ≡ false → Unread numbers held o 1 0
  judged : {n p : ℕ} → held ≡ true → o ≡ refused n p → Unread numbers held o n p
  crowded : (ms : List Msg) → held ≡ true → o ≡ list ms → numbers < 5 * length ms → Unread numbers held o 4 0

-- what is judged 1 is refused with every counter
pub refused_anyway : {numbers : ℕ} {o : Out Msg} (held : Bool) → o ≡ refused 1 0 → Unread numbers held o 1 0
refused_anyway false e = over refl
refused_anyway true e = judged refl e

abbrev rows_told : (List Msg → Counter) → List Msg → Reading
rows_told state ms = R.Rows (length ms) (state ms)

-- What document 01 says of a read, of an input into a table
pub record Rules (input table : List ℕ) : Type 1 where
  -- its table of refusals gives n at p
  pub Refusal : (n p : ℕ) → Type 0
  -- neither the setting nor the state is refused
  pub Fine : Type 0
  -- the input holds the messages ms; their rows; and the state that they leave
  pub Whole : List Msg → Type 0
  pub rows : List Msg → List ℕ
  pub state : List Msg → Counter

-- by all of these, in this order
abbrev pub rules_of : {input table : List ℕ} → (ℕ → ℕ → Type 0) → Type 0 → (List Msg → Type 0) → (List Msg → List ℕ)
    → (List Msg → Counter) → Rules input table
rules_of refusal fine whole rows state = record { Refusal = refusal; Fine = fine; Whole = whole; rows = rows; state = state }

-- What the laws of a transport say of the answer a of such a read
pub record Reader {input table : List ℕ} (S : Rules input table) (a : Answer Reading) : Type 0 where
  pub exact : Exact R.Refused R.Rows S.Refusal (Accepted S.Fine S.Whole S.state (length table)) table a
  -- the rows of what is accepted stand at the front of the table, and those behind are unchanged
  pub front : (ms : List Msg) → S.Fine → S.Whole ms → 5 * length ms ≤ length table
      → (take (5 * length ms) a.lent ≡ S.rows ms) × (drop (5 * length ms) a.lent ≡ drop (5 * length ms) table)
  -- the input holds messages in one way only, and the part of each shows its packet
  pub unique : (ms ns : List Msg) → S.Whole ms → S.Whole ns → ms ≡ ns
  pub shown : (ms : List Msg) → S.Whole ms → Each (Shown input) ms

module _ {input table : List ℕ} (S : Rules input table) (held : Bool) (o : Out Msg) where
  abbrev asked : Out Msg
  asked = cond held o (refused 1 0)

  abbrev told : Answer Reading
  told = answered S.rows S.state table held o

  unread : {n p : ℕ} → Unread (length table) held o n p → told ≡ read_refused table n p
  unread u = refuses R.Refused (rows_told S.state) (few_numbers table) S.rows table (at u)
    where
      at : {n p : ℕ} → Unread (length table) held o n p → Unsettled (few_numbers table) n p asked
      at (over e) = rw e Unsettled.judged
      at (judged e d) = rw (e, d) Unsettled.judged
      at (crowded ms e d l) = rw (e, d) (Unsettled.crowded (lt-ltb (length table) (5 * length ms) l))

  takes : (ms : List Msg) → held ≡ true → o ≡ list ms → 5 * length ms ≤ length table
      → told ≡ record { answer = rows_told S.state ms; lent = sets table 0 (S.rows ms) }
  takes ms e d l =
      rw (e, d) (accepts R.Refused (rows_told S.state) (few_numbers table) S.rows table ms (le-ltb (length table) (5 * length ms) l))

  why_unread : {n p : ℕ} → told.answer ≡ R.Refused n p → Unread (length table) held o n p
  why_unread e = at held refl (why_refused R.Refused (rows_told S.state) (few_numbers table) S.rows table apart_read asked e)
    where
      from : {n p : ℕ} {r : Out Msg} → held ≡ true → o ≡ r → Unsettled (few_numbers table) n p r → Unread (length table) held o n p
      from v d Unsettled.judged = judged v d
      from v d (Unsettled.crowded {xs = ms} f) = crowded ms v d (ltb-true (length table) (5 * length ms) f)

      at : {n p : ℕ} (b : Bool) → held ≡ b → Unsettled (few_numbers table) n p (cond b o (refused 1 0)) → Unread (length table) held o n p
      at false v Unsettled.judged = over v
      at true v u = from v refl u

  -- why it accepts with k rows and the state d: it is held, and what was judged is the list
  abbrev Taken : ℕ → Counter → Type 0
  Taken = Accepted (held ≡ true) (λ ms. o ≡ list ms) S.state (length table)

  why_taken : {k : ℕ} {d : Counter} → told.answer ≡ R.Rows k d → Taken k d
  why_taken {k} {d} e =
      at held refl (why_accepted R.Refused (rows_told S.state) (few_numbers table) S.rows table apart_read asked never e)
    where
      never : (n p : ℕ) → R.Refused n p ≡ R.Rows k d → ⊥
      never n p e = let z : ◌≡◌ {A = ℕ} 0 1 = cc in omega arith

      at : (b : Bool) → held ≡ b → Settled (rows_told S.state) (few_numbers table) (R.Rows k d) (cond b o (refused 1 0)) → Taken k d
      at false v x = let j = x.judged in let z : ◌≡◌ {A = ℕ} 0 1 = cc in absurd (omega arith)
      at true v x =
          let told : R.Rows k d ≡ rows_told S.state x.list = x.told in
          let room = ltb-false (length table) (5 * length x.list) x.enough in
          record { fine = v; messages = x.list; whole = x.judged; room = room; count = cc; left = cc }

  -- A reader that judges soundly and completely keeps to the rules if every reason to refuse gives a refusal, and a refusal gives such a reason
  pub reader : ((n p : ℕ) → S.Refusal n p → (0 < n) × (n ≤ 8)) → ((n p : ℕ) → Unread (length table) held o n p → S.Refusal n p)
      → ((n p : ℕ) → S.Refusal n p → Unread (length table) held o n p) → ((ms : List Msg) → o ≡ list ms → S.Whole ms)
      → ((ms : List Msg) → S.Whole ms → o ≡ list ms) → (S.Fine → held ≡ true)
      → ((ms : List Msg) → held ≡ true → S.Whole ms → S.Fine) → ((ms : List Msg) → length (S.rows ms) ≡ 5 * length ms)
      → ((ms : List Msg) → S.Whole ms → Each (Shown input) ms) → Reader S told
  reader number by to reads complete holds fine long shows =
      record {
        exact =
            record {
              refused = λ n p. (λ e. by n p (why_unread e), λ r. ap (λ a. a.answer) (unread (to n p r)));
              number = number;
              keeps = λ n p. keeps R.Refused (rows_told S.state) (few_numbers table) S.rows table apart_read asked;
              accepted = λ k d. (λ e. whole (why_taken e), taken);
            };
        front = λ ms f x l.
            let r = takes ms (holds f) (complete ms x) l in
            let n = long ms in
            (rw (r, ← n) (put_front table (S.rows ms) (omega arith)), rw (r, ← n) (kept_behind table (S.rows ms) (omega arith)));
        unique = λ ms ns x y. let a = complete ms x in let b = complete ns y in cc;
        shown = shows;
      }
    where
      whole : {k : ℕ} {d : Counter} → Taken k d → Accepted S.Fine S.Whole S.state (length table) k d
      whole y =
          let x : S.Whole y.messages = reads y.messages y.whole in
          let f = fine y.messages y.fine x in
          record { fine = f; messages = y.messages; whole = x; room = y.room; count = y.count; left = y.left }

      taken : {k : ℕ} {d : Counter} → Accepted S.Fine S.Whole S.state (length table) k d → told.answer ≡ R.Rows k d
      taken y =
          let r = takes y.messages (holds y.fine) (complete y.messages y.whole) y.room in
          rw (y.count, y.left) (ap (λ a. a.answer) r)

---- Without a counter ----------------------------------------------------------------------------------------------------------

-- two answers agree in number, in row count or place, and in the table; and the first leaves the state c
pub record Alike (a b : Answer Reading) (c : Counter) : Type 0 where
  pub number : read_number a.answer ≡ read_number b.answer
  pub value : read_value a.answer ≡ read_value b.answer
  pub lent : a.lent ≡ b.lent
  pub state : read_state c a.answer ≡ c

module _ (tab : List Msg → List ℕ) (state : List Msg → Counter) (rows : List ℕ) (held : Bool) (o : Out Msg) (tab' : List Msg → List ℕ)
    (state' : List Msg → Counter) (c : Counter) (same : (ms : List Msg) → tab ms ≡ tab' ms) (left : (ms : List Msg) → state ms ≡ c) where
  -- readers whose rows agree, of which the first leaves c behind every list of messages, give such answers
  pub alike : Alike (answered tab state rows held o) (answered tab' state' rows held o) c
  unfolding settled
  alike = at (cond held o (refused 1 0))
    where
      filled : (List Msg → List ℕ) → (List Msg → Counter) → Bool → List Msg → Answer Reading
      filled t u few ms = cond few (read_refused rows 4 0) (record { answer = rows_told u ms; lent = sets rows 0 (t ms) })

      fill : (b : Bool) (ms : List Msg) → Alike (filled tab state b ms) (filled tab' state' b ms) c
      fill true ms = record { number = refl; value = refl; lent = refl; state = refl }
      fill false ms = record { number = refl; value = refl; lent = ap (sets rows 0) (same ms); state = left ms }

      at : (r : Out Msg) → Alike (settled R.Refused (rows_told state) (few_numbers rows) tab rows r)
          (settled R.Refused (rows_told state') (few_numbers rows) tab' rows r) c
      at (refused n p) = record { number = refl; value = refl; lent = refl; state = refl }
      at (list ms) = fill (few_numbers rows ms) ms
