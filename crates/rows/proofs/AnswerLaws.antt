-- What is judged, and what is written, is what is answered: for whatever is told of the messages, and whatever state is left behind them.
use Prim.Native.Nat.{ℕ, ◌+◌, ◌*◌, ◌<◌, ◌≤◌}
use native.Mathlib.Omega.{arith}
use mathlib.Core.Path.{◌≡◌, refl}
use mathlib.Core.Bool.{Bool, true, false}
use mathlib.Core.List.{List}
use lib.ListN.{length}
use lib.Seq.{sets}
use borrow.Author.Tests.{lt-ltb, le-ltb}
use Rattle.layout.specs.Walk.{Out, Out.list, Out.refused}
use Rattle.packet.specs.declared.Counter.{Counter}
use Rattle.packet.specs.Reading.{Reading, Reading as R}
use Rattle.packet.specs.Answer.{Answer, Gives, read_refused, settled, answered}
use Rattle.packet.specs.Message.{Msg}
use Rattle.packet.proofs.AnswerLaws.{gives, gives_so}
use Rattle.rows.specs.Count.{Judged.Rows, Judged.Refused}
use Rattle.rows.specs.Count.{counted, JudgedAs}
use Rattle.rows.specs.Fill.{Filled.filled, fill_of}

module _ (told : List Msg → List ℕ) (state : List Msg → Counter) (rows : List ℕ) where
  abbrev answer_of : Bool → Out Msg → Answer Reading
  answer_of held o = answered told state rows held o

  -- the setting is not sound, whatever the state
  pub not_sound : (held : Bool) → answer_of held (refused 1 0) ≡ read_refused rows 1 0
  unfolding settled
  not_sound true = refl
  not_sound false = refl

  -- it is refused before it is judged, or its state is not valid
  pub not_judged : (n p : ℕ) → answer_of true (refused n p) ≡ read_refused rows n p
  unfolding settled
  not_judged n p = refl

  as_refused : {n p : ℕ} (o : Out Msg) → Refused n p ≡ counted 0 o → answer_of true o ≡ read_refused rows n p
  as_refused (list ms) e = let z : ◌≡◌ {A = ℕ} 0 1 = cc in absurd (omega arith)
  as_refused {n} {p} (refused a b) e =
      let x : a ≡ n = cc in
      let y : b ≡ p = cc in
      rw (x, y) (not_judged n p)

  as_crowded : {k : ℕ} (o : Out Msg) → Rows k ≡ counted 0 o → length rows < 5 * k → answer_of true o ≡ read_refused rows 4 0
  unfolding settled
  as_crowded {k} (list ms) e l =
      let d : k ≡ 0 + length ms = cc in
      rw (lt-ltb (length rows) (5 * length ms) (omega arith))
  as_crowded (refused n q) e l = let z : ◌≡◌ {A = ℕ} 0 1 = cc in absurd (omega arith)

  as_given : {k : ℕ} (o : Out Msg) → Rows k ≡ counted 0 o → 5 * k ≤ length rows → {new : List ℕ} {d : Counter}
      → filled new d ≡ fill_of told state rows 0 o → answer_of true o ≡ record { answer = R.Rows k d; lent = new }
  unfolding settled
  as_given {k} (list ms) e l {new} {d} f =
      let i : k ≡ 0 + length ms = cc in
      let j : length ms ≡ k = omega arith in
      let x : sets rows 0 (told ms) ≡ new = cc in
      let y : state ms ≡ d = cc in
      rw (le-ltb (length rows) (5 * length ms) (omega arith), j, x, y)
  as_given (refused n q) e l f = let z : ◌≡◌ {A = ℕ} 0 1 = cc in absurd (omega arith)

  -- it was judged, and is refused as it was judged; as many rows as were counted have no room; they have, and are written
  module _ {o : Out Msg} {m : ℕ} {r : Reading} {new : List ℕ} where
    pub is-refused : {n p : ℕ} → JudgedAs 0 o m (Refused n p) → Gives (read_refused rows n p) r new → Gives (answer_of true o) r new
    is-refused j g = gives_so (as_refused o j.is) g

    pub is_crowded : {k : ℕ} → JudgedAs 0 o m (Rows k) → length rows < 5 * k → Gives (read_refused rows 4 0) r new → Gives (answer_of true o) r new
    is_crowded j l g = gives_so (as_crowded o j.is l) g

  pub is-given : {o : Out Msg} {m k : ℕ} → JudgedAs 0 o m (Rows k) → 5 * k ≤ length rows → {new : List ℕ} {d : Counter}
      → filled new d ≡ fill_of told state rows 0 o → Gives (answer_of true o) (R.Rows k d) new
  is-given {o} j l f = gives (as_given o j.is l f)
