-- Where each packet has a header of its own, a read is refused exactly where document 01's table says so, and accepted exactly where nothing is refused:
-- once for USB and UDP, from what a transport shows of its walk.
use Rattle.std.proofs.Common.{◌≡◌, ℕ, ◌<◌, ◌≤◌, Bool, true, false, cond, not, ltb}
use Rattle.std.proofs.Common.{List, length, refl, ap, arith, ltb-false, ltb-true, le-ltb, lt-ltb}
use Rattle.layout.specs.Walk.{Out, Out.list, Out.refused}
use Rattle.packet.specs.declared.Counter.{Counter}
use Rattle.packet.specs.Answer.{Ready, bounded, answered}
use Rattle.packet.specs.Counter.{valid}
use Rattle.packet.specs.Message.{Msg}
use Rattle.packet.specs.Refusal.{ReadRefusal}
use Rattle.packet.specs.Row.{table, behind}
use Rattle.packet.proofs.CounterLaws.{exceeds_known, not_valid}
use Rattle.packet.proofs.PacketsLaws.{Each}
use Rattle.packet.proofs.ReaderLaws.{Unread, refused_anyway, Rules, rules_of, Reader, reader}
use Rattle.packet.proofs.RowLaws.{length-table}
use Rattle.packet.proofs.SeenLaws.{Shown}

-- What a transport shows of the walk over an input, which gives o
pub record Walks (sound : Bool) (most : ℕ) (t : List ℕ) (Breaks : ℕ → ℕ → Type 0) (Whole : List Msg → Type 0) (o : Out Msg) : Type 0 where
  pub whole : {ms : List Msg} → sound ≡ true → length t ≤ most → o ≡ list ms → Whole ms
  pub setting : {ms : List Msg} → Whole ms → sound ≡ true
  pub short : {ms : List Msg} → Whole ms → length t ≤ most
  pub listed : {ms : List Msg} → Whole ms → o ≡ list ms
  pub breaks : {n p : ℕ} → sound ≡ true → o ≡ refused n p → Breaks n p
  pub broken : {n p : ℕ} → sound ≡ true → Breaks n p → o ≡ refused n p
  -- a broken rule has one of document 01's numbers, which is not 1
  pub number : {n p : ℕ} → Breaks n p → (1 < n) × (n ≤ 8)
  pub shown : {ms : List Msg} → Whole ms → Each (Shown t) ms

module _ {sound : Bool} {most : ℕ} {t : List ℕ} {Breaks : ℕ → ℕ → Type 0} {Whole : List Msg → Type 0} {o : Out Msg}
    (k : Walks sound most t Breaks Whole o) where
  abbrev judged : Out Msg
  judged = bounded sound most (length t) o

  -- what comes before the walk
  data Judgement : Out Msg → Type 0 where
    unsound : sound ≡ false → Judgement (refused 1 0)
    long : sound ≡ true → most < length t → Judgement (refused 2 0)
    walks : {r : Out Msg} → sound ≡ true → length t ≤ most → o ≡ r → Judgement r

  judgement : {r : Out Msg} → judged ≡ r → Judgement r
  unfolding bounded
  judgement {r} = at sound (ltb most (length t)) refl refl
    where
      at : (a b : Bool) → sound ≡ a → ltb most (length t) ≡ b → cond (not a) (refused 1 0) (cond b (refused 2 0) o) ≡ r → Judgement r
      at false b ga gb e = rw (← e) (unsound ga)
      at true true ga gb e = rw (← e) (long ga (ltb-true most (length t) gb))
      at true false ga gb e = walks ga (ltb-false most (length t) gb) e

  judged-is : {r : Out Msg} → Judgement r → judged ≡ r
  unfolding bounded
  judged-is (unsound e) = rw e
  judged-is (long e l) = rw (e, lt-ltb most (length t) l)
  judged-is (walks e l w) = rw (e, le-ltb most (length t) l) w

  -- what the reader accepts is laid out so
  pub read_sound : (ms : List Msg) → judged ≡ list ms → Whole ms
  read_sound ms e = at (judgement e)
    where
      at : Judgement (list ms) → Whole ms
      at (walks s l w) = k.whole s l w

  -- what is laid out is read, with exactly those messages
  pub read_complete : (ms : List Msg) → Whole ms → judged ≡ list ms
  read_complete ms x = judged-is (walks (k.setting x) (k.short x) (k.listed x))

  module _ (direction w : ℕ) (c : Counter) (rows : List ℕ) where
    abbrev Refusal : ℕ → ℕ → Type 0
    Refusal = ReadRefusal sound w most Breaks Whole t c (length rows)

    read_number_is : {n p : ℕ} → Refusal n p → (0 < n) × (n ≤ 8)
    read_number_is (ReadRefusal.setting e) = omega arith
    read_number_is (ReadRefusal.counter i x) = omega arith
    read_number_is (ReadRefusal.long f l) = omega arith
    read_number_is (ReadRefusal.rule f l b) = omega (arith, k.number b)
    read_number_is (ReadRefusal.room f ms x l) = omega arith

    by-judged : {n p : ℕ} → valid w c ≡ true → Judgement (refused n p) → Refusal n p
    by-judged v (unsound e) = ReadRefusal.setting e
    by-judged v (long e l) = ReadRefusal.long (record { setting = e; counter = v }) l
    by-judged v (walks e l x) = ReadRefusal.rule (record { setting = e; counter = v }) l (k.breaks e x)

    by-table : {n p : ℕ} → Unread (length rows) (valid w c) judged n p → Refusal n p
    by-table (Unread.over e) = let (i, x) = exceeds_known w c e in ReadRefusal.counter i x
    by-table (Unread.judged v e) = by-judged v (judgement e)
    by-table (Unread.crowded ms v e l) = let x = read_sound ms e in ReadRefusal.room (record { setting = k.setting x; counter = v }) ms x l

    to-table : {n p : ℕ} → Refusal n p → Unread (length rows) (valid w c) judged n p
    to-table (ReadRefusal.setting e) = refused_anyway (valid w c) (judged-is (unsound e))
    to-table (ReadRefusal.counter i x) = Unread.over (not_valid w c i x)
    to-table (ReadRefusal.long f l) = Unread.judged f.counter (judged-is (long f.setting l))
    to-table (ReadRefusal.rule f l b) = Unread.judged f.counter (judged-is (walks f.setting l (k.broken f.setting b)))
    to-table (ReadRefusal.room f ms x l) = Unread.crowded ms f.counter (read_complete ms x) l

    -- what document 01 says of a read
    abbrev pub rules : Rules t rows
    rules = rules_of Refusal (Ready sound (valid w c)) Whole (table direction w c) (behind w c)

    pub read_exact : Reader rules (answered (table direction w c) (behind w c) rows (valid w c) judged)
    read_exact =
        reader rules (valid w c) judged (λ n p. read_number_is) (λ n p. by-table) (λ n p. to-table) read_sound read_complete
        (λ f. f.counter) (λ ms v x. record { setting = k.setting x; counter = v }) (length-table direction w c) (λ ms. k.shown)

-- what is judged of an input hangs on the walk over it only where it is not too long
pub bounded-same : (sound : Bool) (most n : ℕ) {o r : Out Msg} → (n ≤ most → o ≡ r) → bounded sound most n o ≡ bounded sound most n r
unfolding bounded
bounded-same sound most n {o} {r} f = ap (cond (not sound) (refused 1 0)) (at (ltb most n) refl)
  where
    at : (b : Bool) → ltb most n ≡ b → cond b (refused 2 0) o ≡ cond b (refused 2 0) r
    at true g = refl
    at false g = f (ltb-false most n g)
