-- A frame is refused with a number at a place exactly where that rule is broken there, and accepted exactly where none is.
use Prim.Native.Nat.{ℕ, ◌*◌, ◌-◌, ◌<◌, ◌≤◌}
use native.Mathlib.Omega.{arith}
use mathlib.Core.Path.{◌≡◌, refl, sym, ◌∙◌}
use mathlib.Core.Bool.{Bool, true, false}
use mathlib.Core.List.{List, [], ◌∷◌}
use lib.ListN.{length, drop}
use lib.Dec.{eqb}
use borrow.Author.Tests.{eqb-true, eqb-false}
use Rattle.layout.specs.Field.{says, Name.LEN}
use Rattle.layout.specs.Walk.{Ends, Out.refused, Step.fault, Leads.here, Ends.stops}
use Rattle.packet.specs.declared.Counter.{Counter}
use Rattle.packet.specs.Counter.{valid, gap, advance}
use Rattle.packet.specs.Row.{row}
use Rattle.packet.specs.Message.{Msg}
use Rattle.packet.proofs.CounterLaws.{exceeds_known, valid_without, not_valid}
use Rattle.packet.proofs.RowLaws.{length-table, state_unread}
use Rattle.packet.proofs.ReaderLaws.{Alike, Unread, refused_anyway, Rules, rules_of, Reader, reader, alike}
use Rattle.flexray.specs.declared.Setting.{Setting}
use Rattle.flexray.specs.Setting.{fields, H, L, W}
use Rattle.flexray.specs.Layout.{Sized, Frame}
use Rattle.flexray.specs.Reading.{first_len, step, ahead, judged, read_of}
use Rattle.flexray.specs.Row.{frame_table, frame_state}
use Rattle.flexray.specs.Refusal.{Fine, Broken, ReadRefusal}
use Rattle.flexray.specs.Refusal.{Broken.zeroed, Broken.past, Broken.behind as past-behind}
use Rattle.flexray.specs.Refusal as S
use Rattle.flexray.proofs.SeenLaws.{Sees.is_none, Sees.is-past, First, Later}
use Rattle.flexray.proofs.SeenLaws.{first, first_only, first-all, first_said, later, later_only}
use Rattle.flexray.proofs.WayLaws.{Reached, Reached.start_itself, Reached.packet-end, reached, leads}
use Rattle.flexray.proofs.ReadLaws.{ahead-ends, ends-ahead, read_sound, read_complete, parts_show}
use Rattle.flexray.proofs.ReadLaws.{Judged, judge, judged-is}
use Rattle.flexray.proofs.ReadLaws.{Judged.unsound, Judged.odd, Judged.long, Judged.short, Judged.other, Judged.walks}

---- The broken rule ------------------------------------------------------------------------------------------------------------

module _ (s : Setting) (t : List ℕ) (z : Sized s t) where
  -- without LEN the first packet is neither empty nor past the frame
  said : (first_len s t ≡ length t - H s → ⊥) → (0 < L s) × (first_len s t ≡ says LEN (fields s) t 0)
  said f = at (eqb (L s) 0) refl
    where
      at : (b : Bool) → eqb (L s) 0 ≡ b → (0 < L s) × (first_len s t ≡ says LEN (fields s) t 0)
      at true g = absurd (f (first-all s t (eqb-true (L s) 0 g)))
      at false g = let l : 0 < L s = omega (arith, eqb-false (L s) 0 g) in (l, first_said s t l)

  broken-first : {n p : ℕ} → First s t (fault n p) → Broken s t n p
  broken-first (is_none e) =
      let (l, d) = said (λ x. omega (arith, z.least)) in
      zeroed l (sym d ∙ e)
  broken-first (is-past e h) =
      let (l, d) = said (λ x. omega (arith, z.least)) in
      past (first_len s t) l (sym d) e h

  broken-at : {k n p : ℕ} {ms : List Msg} → Reached s t k ms → step s t k ≡ fault n p → Broken s t n p
  broken-at start_itself d = broken-first (rw d at (first s t))
  broken-at (packet-end {k = k} {ms = ms} h l) d = at (rw d at (later s t k h))
    where
      at : {n p : ℕ} → Later s t k (fault n p) → Broken s t n p
      at (is-past e h) = past-behind _ k (drop k t) ms l refl e h

  broken : {n p : ℕ} → ahead s t 0 ≡ refused n p → Broken s t n p
  broken e = at (ahead-ends s t e)
    where
      at : {n p : ℕ} → Ends (step s t) 0 (refused n p) → Broken s t n p
      at (stops l d) = broken-at (reached s t l) d

  breaks : {n p : ℕ} → Broken s t n p → Ends (step s t) 0 (refused n p)
  breaks (zeroed l e) = stops here (first_only s t (is_none (first_said s t l ∙ e)))
  breaks (past n l e h b) =
      let d : first_len s t ≡ n = first_said s t l ∙ e in
      stops here (first_only s t (is-past (omega arith) (omega arith)))
  breaks (past-behind n k cs ms l e h b) =
      let (w, c, y) = leads s t l in
      stops w (later_only s t k y (is-past (omega arith) (omega arith)))

---- The answer -----------------------------------------------------------------------------------------------------------------

-- a refusal has one of document 01's numbers
rule-number : {s : Setting} {t : List ℕ} {n p : ℕ} → Broken s t n p → (0 < n) × (n ≤ 8)
rule-number (zeroed l e) = omega arith
rule-number (past n l e h b) = omega arith
rule-number (past-behind n k cs ms l e h b) = omega arith

read_number_is : {s : Setting} {t : List ℕ} {c : Counter} {k n p : ℕ} → ReadRefusal s t c k n p → (0 < n) × (n ≤ 8)
read_number_is (S.ReadRefusal.setting e) = omega arith
read_number_is (S.ReadRefusal.counter k x) = omega arith
read_number_is (S.ReadRefusal.odd f h) = omega arith
read_number_is (S.ReadRefusal.long f h) = omega arith
read_number_is (S.ReadRefusal.short f v h) = omega arith
read_number_is (S.ReadRefusal.node f v h x) = omega arith
read_number_is (S.ReadRefusal.rule f z b) = rule-number b
read_number_is (S.ReadRefusal.room f ms r h) = omega arith

module _ (s : Setting) (t : List ℕ) (c : Counter) (rows : List ℕ) where
  from-judged : {n p : ℕ} → valid (W s) c ≡ true → Judged s t (refused n p) → ReadRefusal s t c (length rows) n p
  from-judged v (unsound e) = S.ReadRefusal.setting e
  from-judged v (odd e h) = S.ReadRefusal.odd (record { setting = e; counter = v }) h
  from-judged v (long e h) = S.ReadRefusal.long (record { setting = e; counter = v }) h
  from-judged v (short e u h) = S.ReadRefusal.short (record { setting = e; counter = v }) u h
  from-judged v (other e u h x) = S.ReadRefusal.node (record { setting = e; counter = v }) u h x
  from-judged v (walks e z w) = S.ReadRefusal.rule (record { setting = e; counter = v }) z (broken s t z w)

  by-table : {n p : ℕ} → Unread (length rows) (valid (W s) c) (judged s t) n p → ReadRefusal s t c (length rows) n p
  by-table (Unread.over e) = let (k, x) = exceeds_known (W s) c e in S.ReadRefusal.counter k x
  by-table (Unread.judged v e) = from-judged v (rw e at (judge s t))
  by-table (Unread.crowded ms v e l) =
      let f : Frame s ms t = read_sound s t ms e in
      S.ReadRefusal.room (record { setting = f.setting; counter = v }) ms f l

  to-table : {n p : ℕ} → ReadRefusal s t c (length rows) n p → Unread (length rows) (valid (W s) c) (judged s t) n p
  to-table (S.ReadRefusal.setting e) = refused_anyway (valid (W s) c) (judged-is s t (unsound e))
  to-table (S.ReadRefusal.counter k x) = Unread.over (not_valid (W s) c k x)
  to-table (S.ReadRefusal.odd f h) = Unread.judged f.counter (judged-is s t (odd f.setting h))
  to-table (S.ReadRefusal.long f h) = Unread.judged f.counter (judged-is s t (long f.setting h))
  to-table (S.ReadRefusal.short f v h) = Unread.judged f.counter (judged-is s t (short f.setting v h))
  to-table (S.ReadRefusal.node f v h x) = Unread.judged f.counter (judged-is s t (other f.setting v h x))
  to-table (S.ReadRefusal.rule f z b) = Unread.judged f.counter (judged-is s t (walks f.setting z (ends-ahead s t (breaks s t z b))))
  to-table (S.ReadRefusal.room f ms r h) = Unread.crowded ms f.counter (read_complete s t ms r) h

  length-frame-table : (ms : List Msg) → length (frame_table s.direction (W s) c ms) ≡ 5 * length ms
  unfolding frame_table
  length-frame-table [] = refl
  length-frame-table (m ∷ ms) = omega (arith, length-table s.direction 0 c ms)

  -- what document 01 says of a read
  abbrev pub rules : Rules t rows
  rules = rules_of (ReadRefusal s t c (length rows)) (Fine s c) (λ ms. Frame s ms t) (frame_table s.direction (W s) c) (frame_state (W s) c)

  pub read_exact : Reader rules (read_of s t c rows)
  unfolding read_of
  read_exact =
      reader rules (valid (W s) c) (judged s t) (λ n p. read_number_is) (λ n p. by-table) (λ n p. to-table) (read_sound s t) (read_complete s t)
      (λ f. f.counter) (λ ms v x. record { setting = x.setting; counter = v }) length-frame-table (parts_show s t)

---- Without CTR ----------------------------------------------------------------------------------------------------------------

frame_unread : (d : ℕ) (b c : Counter) (ms : List Msg) → frame_table d 0 b ms ≡ frame_table d 0 c ms
unfolding frame_table row gap
frame_unread d b c [] = refl
frame_unread d b c (m ∷ ms) = rw (state_unread d b c ms)

frame_unaltered : (c : Counter) (ms : List Msg) → frame_state 0 c ms ≡ c
unfolding frame_state advance
frame_unaltered c [] = refl
frame_unaltered c (m ∷ ms) = refl

-- the state is neither read nor altered
pub counter_unread : (s : Setting) (t : List ℕ) → W s ≡ 0 → (rows : List ℕ) (b c : Counter) → Alike (read_of s t b rows) (read_of s t c rows) b
unfolding read_of
counter_unread s t none rows b c =
    rw (none, valid_without b, valid_without c)
    (alike (frame_table s.direction 0 b) (frame_state 0 b) rows true (judged s t) (frame_table s.direction 0 c) (frame_state 0 c) b
    (frame_unread s.direction b c) (frame_unaltered b))
