-- The steps lead from one packet's end to another exactly where the bytes between are laid out as the further packets on the way.
use Prim.Native.Nat.{ℕ, suc, ◌+◌, ◌-◌, ◌<◌, ◌≤◌}
use native.Mathlib.Omega.{arith}
use mathlib.Core.Path.{◌≡◌, refl, sym, ap, ◌∙◌}
use mathlib.Core.Bool.{Bool, true, false}
use mathlib.Core.List.{List, [], ◌∷◌, ◌++◌}
use lib.ListN.{length, take, drop, length-append, length-drop, get_or-eq_default}
use lib.Seq.{take_at, get_or_at, get_or-drop, drop-cons, append_snoc}
use lib.Dec.{leb}
use borrow.Author.Tests.{leb-true, leb-false}
use Rattle.layout.specs.Walk.{Leads, Step.entry}
use Rattle.layout.specs.Walk.{Leads.here as stay, Leads.takes, Leads.skips}
use Rattle.layout.proofs.PartLaws.{cut, long, behind}
use Rattle.packet.specs.Message.{Msg}
use Rattle.flexray.specs.declared.Setting.{Setting}
use Rattle.flexray.specs.Setting.{start}
use Rattle.flexray.specs.Layout.{Further, Closed, Further.here, Further.next, Closed.outside, Closed.zeroed}
use Rattle.flexray.specs.Reading.{next_len, step}
use Rattle.flexray.proofs.AlignLaws.{start-behind}
use Rattle.flexray.proofs.SeenLaws.{Sees.is-packet, packet_of, Later}
use Rattle.flexray.proofs.SeenLaws.{later, later_only, later_passes}

---- Bytes at a place -----------------------------------------------------------------------------------------------------------

module _ (t : List ℕ) where
  -- the packet of n bytes at p, where the bytes b stand there
  pub shows : (p : ℕ) {n c d : ℕ} (b r : List ℕ) → n ≡ length b → c ≡ d → drop p t ≡ b ++ r
      → packet_of t p n c ≡ entry (record { at = p; packet = b; ctr = d }) (p + length b)
  shows p b r e x d = rw (e, x, d, take_at b r (length b) refl)

---- Further packets ------------------------------------------------------------------------------------------------------------

module _ (a : ℕ) (t : List ℕ) where
  -- free bytes, LEN and what is behind, where the LEN place is inside
  len_place : (q : ℕ) → start a q ≤ length t
      → (f : List ℕ) × (q + length f + 1 ≡ start a q) × (drop q t ≡ f ++ (next_len a t q ∷ drop (start a q) t))
  len_place q h =
      let m : q < start a q = start-behind a q in
      let k : ℕ = start a q - 1 - q in
      let l : length (take k (drop q t)) ≡ k = long t q k (omega arith) in
      let i : q + k ≡ start a q - 1 = omega arith in
      let j : suc (start a q - 1) ≡ start a q = omega arith in
      let d : drop (q + k) t ≡ next_len a t q ∷ drop (start a q) t = rw i (drop-cons t (start a q - 1) 0 (omega arith) ∙ rw j) in
      (take k (drop q t), omega arith, cut t q k ∙ ap (λ z. take k (drop q t) ++ z) d)

  module _ (q x : ℕ) (f r : List ℕ) (l : q + length f + 1 ≡ start a q) (c : f ++ (x ∷ r) ≡ drop q t) where
    len-here : next_len a t q ≡ x
    len-here =
        let i : start a q - 1 ≡ q + length f = omega arith in
        rw (i, ← get_or-drop q t (length f) 0, ← c) (get_or_at f x r 0 (length f) refl)

    len-behind : drop (start a q) t ≡ r
    len-behind =
        let i : start a q ≡ q + (length f + 1) = omega arith in
        rw i (behind t q (length f + 1) (f ++ (x ∷ [])) r (simp length-append) (append_snoc f x r ∙ c))

  -- the end is where no further LEN stands
  pub closed_none : (q : ℕ) {r : List ℕ} → Closed a q r → r ≡ drop q t → next_len a t q ≡ 0
  closed_none q (outside r l) c =
      let d : length r ≡ length t - q = simp length-drop at (ap length c) in
      get_or-eq_default t 0 {n = start a q - 1} (omega arith)
  closed_none q (zeroed f r l) c = len-here q 0 f r l c

  pub none-closed : (q : ℕ) → next_len a t q ≡ 0 → Closed a q (drop q t)
  none-closed q z = at (leb (start a q) (length t)) refl
    where
      at : (b : Bool) → leb (start a q) (length t) ≡ b → Closed a q (drop q t)
      at true g =
          let (f, l, c) = len_place q (leb-true (start a q) (length t) g) in
          rw (c, z) (zeroed f (drop (start a q) t) l)
      at false g = outside (drop q t) (rw length-drop (omega (arith, start-behind a q, leb-false (start a q) (length t) g)))

pub further-on : {a e : ℕ} {cs : List ℕ} {q : ℕ} {bs : List ℕ} {ms : List Msg} → Further a e cs q ms bs → q ≤ e
further-on here = omega arith
further-on {a} (next {q = q} f b l z k) = omega (arith, start-behind a q, further-on k)

next-sized : {a e q n : ℕ} {cs bs : List ℕ} {ms : List Msg} (f b : List ℕ) → length b ≡ n → q + length f + 1 ≡ start a q → 0 < n
    → Further a e cs (start a q + n) ms bs → Further a e cs q (record { at = start a q; packet = b; ctr = 0 } ∷ ms) (f ++ (n ∷ (b ++ bs)))
next-sized f b w i = rw (← w) (λ z k. next f b i z k)

module _ (s : Setting) (t : List ℕ) where
  abbrev A : ℕ
  A = s.align

  -- from the layout to the steps
  pub follow : {e : ℕ} {cs : List ℕ} {q : ℕ} {bs : List ℕ} {ms : List Msg} → Further A e cs q ms bs → 0 < q → bs ≡ drop q t
      → Leads (step s t) e q ms × (cs ≡ drop e t)
  follow here h c = (stay, c)
  follow (next {q = q} f b {bs = bs} l z k) h c =
      let d : length f + suc (length b + length bs) ≡ length t - q = simp (length-append, length-drop) at (ap length c) in
      let n : next_len A t q ≡ length b = len-here A t q (length b) f (b ++ bs) l c in
      let r : drop (start A q) t ≡ b ++ bs = len-behind A t q (length b) f (b ++ bs) l c in
      let v = later_only s t q h (is-packet (omega arith) (omega arith)) ∙ shows t (start A q) b bs n refl r in
      let on = follow k (omega arith) (sym (behind t (start A q) (length b) b bs refl (sym r))) in
      (takes v on.0, on.1)

  -- from the steps to the layout
  extend : {k q j : ℕ} {cs : List ℕ} {m : Msg} {ms : List Msg} → Later s t q (entry m j)
      → (0 < j → Further A k cs j ms (drop j t)) → Further A k cs q (m ∷ ms) (drop q t)
  extend {q = q} {ms = ms} (is-packet z l) on =
      let n : ℕ = next_len A t q in
      let b : List ℕ = take n (drop (start A q) t) in
      let (f, i, c) = len_place A t q (omega arith) in
      let w : length b ≡ n = long t (start A q) n l in
      rw (c ∙ ap (λ y. f ++ (n ∷ y)) (cut t (start A q) n)) (next-sized f b w i (omega arith) (on (omega arith)))

  pub further : {k q : ℕ} {ms : List Msg} → Leads (step s t) k q ms → 0 < q → Further A k (drop k t) q ms (drop q t)
  further stay h = here
  further (takes {q = q} e l) h = extend (rw e at (later s t q h)) (further l)
  further (skips {q = q} {j = j} e l) h = absurd (later_passes s t q (rw e at (later s t q h)))
