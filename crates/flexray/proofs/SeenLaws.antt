-- What a step sees, by cases: the view holds of the step, and of nothing but the step.
use Prim.Native.Nat.{ℕ, ◌+◌, ◌-◌, ◌<◌, ◌≤◌}
use native.Mathlib.Omega.{arith}
use mathlib.Core.Path.{◌≡◌, refl}
use mathlib.Core.Bool.{Bool, true, false, cond}
use mathlib.Core.List.{List}
use lib.ListN.{length}
use lib.Dec.{ltb, eqb}
use borrow.Author.Tests.{ltb-true, ltb-false, eqb-true, eqb-false, lt-ltb, le-ltb, eq-eqb, ne_eqb}
use Rattle.layout.specs.Field.{says, Name.LEN, Name.CTR}
use Rattle.layout.specs.Walk.{Step, Step.done, Step.entry, Step.pass, Step.fault}
use Rattle.packet.specs.Seen.{Seen, Seen as S}
use Rattle.packet.specs.declared.Found.{Found}
use Rattle.packet.specs.Message.{Msg}
use Rattle.packet.specs.Seen.{message, as_step}
use Rattle.flexray.specs.declared.Setting.{Setting}
use Rattle.flexray.specs.Setting.{fields, H, L, start}
use Rattle.flexray.specs.Reading.{packet_at, first_len, next_len, seen, step}

-- a packet of n bytes at p with counter c, and where its end is
abbrev found : ℕ → ℕ → ℕ → Found
found p n c = record { at = p; len = n; ctr = c }

abbrev pub packet_of : List ℕ → ℕ → ℕ → ℕ → Step Msg
packet_of t p n c = entry (message t (found p n c)) (p + n)

-- what is seen of a packet of n bytes at p: `none` where n is 0, `past` where it runs past the frame, or the packet
pub data Sees (t : List ℕ) (none past : Step Msg) (p n c : ℕ) : Step Msg → Type 0 where
  is_none : n ≡ 0 → Sees t none past p n c none
  is-past : 0 < n → length t < p + n → Sees t none past p n c past
  is-packet : 0 < n → p + n ≤ length t → Sees t none past p n c (packet_of t p n c)

module _ (t : List ℕ) (none past : Seen) (p n c : ℕ) where
  sees : Sees t (as_step t none) (as_step t past) p n c (as_step t (packet_at t none past p n c))
  sees = at (eqb n 0) (ltb (length t) (p + n)) refl refl
    where
      at : (a b : Bool) → eqb n 0 ≡ a → ltb (length t) (p + n) ≡ b → Sees t (as_step t none) (as_step t past) p n c
          (as_step t (cond a none (cond b past (S.Message (found p n c) (record { q = p + n; end = length t })))))
      at true b ga gb = is_none (eqb-true n 0 ga)
      at false true ga gb = is-past (omega (arith, eqb-false n 0 ga)) (ltb-true (length t) (p + n) gb)
      at false false ga gb = is-packet (omega (arith, eqb-false n 0 ga)) (ltb-false (length t) (p + n) gb)

  sees_only : {v : Step Msg} → Sees t (as_step t none) (as_step t past) p n c v → as_step t (packet_at t none past p n c) ≡ v
  sees_only (is_none z) = rw (eq-eqb n 0 z)
  sees_only (is-past z l) = rw (ne_eqb n 0 (omega arith), lt-ltb (length t) (p + n) l)
  sees_only (is-packet z l) = rw (ne_eqb n 0 (omega arith), le-ltb (length t) (p + n) l)

module _ (s : Setting) (t : List ℕ) where
  abbrev pub First : Step Msg → Type 0
  First = Sees t (fault 6 0) (fault 5 0) (H s) (first_len s t) (says CTR (fields s) t 0)

  abbrev pub Later : ℕ → Step Msg → Type 0
  Later q = Sees t done (fault 5 (start s.align q - 1)) (start s.align q) (next_len s.align t q) 0

  pub first : First (step s t 0)
  unfolding seen
  first = sees t (S.Refused 6 0) (S.Refused 5 0) (H s) (first_len s t) (says CTR (fields s) t 0)

  pub first_only : {v : Step Msg} → First v → step s t 0 ≡ v
  unfolding seen
  first_only f = sees_only t (S.Refused 6 0) (S.Refused 5 0) (H s) (first_len s t) (says CTR (fields s) t 0) f

  pub later : (q : ℕ) → 0 < q → Later q (step s t q)
  unfolding seen
  later q h =
      rw (ne_eqb q 0 (omega arith))
      (sees t S.Nothing (S.Refused 5 (start s.align q - 1)) (start s.align q) (next_len s.align t q) 0)

  pub later_only : (q : ℕ) {v : Step Msg} → 0 < q → Later q v → step s t q ≡ v
  unfolding seen
  later_only q h f =
      rw (ne_eqb q 0 (omega arith))
      (sees_only t S.Nothing (S.Refused 5 (start s.align q - 1)) (start s.align q) (next_len s.align t q) 0 f)

  -- the first packet's length
  pub first-all : L s ≡ 0 → first_len s t ≡ length t - H s
  first-all z = rw (eq-eqb (L s) 0 z)

  pub first_said : 0 < L s → first_len s t ≡ says LEN (fields s) t 0
  first_said z = rw (ne_eqb (L s) 0 (omega arith))

  -- no step passes over anything, and a frame does not end at its start
  pub first_passes : {j : ℕ} → First (pass j) → ⊥
  first_passes = elim [ ]

  pub first_done : First done → ⊥
  first_done = elim [ ]

  pub later_passes : (q : ℕ) {j : ℕ} → Later q (pass j) → ⊥
  later_passes q = elim [ ]
