-- The steps lead from a frame's start to a packet's end exactly where the bytes up to there are laid out as the packets on the way.
use Prim.Native.Nat.{ℕ, ◌+◌, ◌<◌}
use native.Mathlib.Omega.{arith}
use mathlib.Core.Path.{◌≡◌, refl, sym, ap, ◌∙◌}
use mathlib.Core.Bool.{Bool, true, false}
use mathlib.Core.List.{List, [], ◌∷◌, ◌++◌}
use lib.ListN.{length, take, drop, length-append, length-take, take-append-drop, drop_of_length-le}
use lib.Seq.{drop_at}
use lib.Dec.{eqb}
use borrow.Author.Tests.{eqb-true, eqb-false}
use Rattle.layout.specs.Field.{Name, says, Name.LEN, Name.CTR}
use Rattle.layout.specs.Walk.{Leads, Step.entry}
use Rattle.layout.specs.Walk.{Leads.here as stay, Leads.takes, Leads.skips}
use Rattle.layout.proofs.FieldLaws.{says_here}
use Rattle.layout.proofs.PartLaws.{cut, long, behind}
use Rattle.packet.specs.Message.{Msg}
use Rattle.flexray.specs.declared.Setting.{Setting}
use Rattle.flexray.specs.Setting.{fields, H, L}
use Rattle.flexray.specs.Layout.{Further, Laid, Laid.frame}
use Rattle.flexray.specs.Layout.{First as Head}
use Rattle.flexray.specs.Reading.{first_len, step}
use Rattle.flexray.proofs.SeenLaws.{Sees.is-packet, First}
use Rattle.flexray.proofs.SeenLaws.{first, first_only, first_passes, first-all, first_said}
use Rattle.flexray.proofs.FurtherLaws.{shows, further-on, follow, further}

module _ (s : Setting) (t : List ℕ) where
  -- what a field says in the frame it says in the header h
  pub says-head : (k : Name) (h r : List ℕ) → length h ≡ H s → h ++ r ≡ t → says k (fields s) t 0 ≡ says k (fields s) h 0
  says-head k h r l c = says_here k (fields s) 0 t h r (omega arith) c

  first-len : (h b bs : List ℕ) → Head s h b bs → h ++ (b ++ bs) ≡ t → first_len s t ≡ length b
  first-len h b bs r c = at (eqb (L s) 0) refl
    where
      at : (x : Bool) → eqb (L s) 0 ≡ x → first_len s t ≡ length b
      at true g =
          let z : L s ≡ 0 = eqb-true (L s) 0 g in
          let e : length t ≡ length h + (length b + 0) = rw (← c, r.all z) (simp length-append) in
          first-all s t z ∙ omega (arith, r.header)
      at false g =
          let z : 0 < L s = omega (arith, eqb-false (L s) 0 g) in
          first_said s t z ∙ says-head LEN h (b ++ bs) r.header c ∙ r.len z

  -- where a layout ends, the steps lead, and its bytes are left
  abbrev pub Led : ℕ → List ℕ → List Msg → Type 0
  Led e cs ms = Leads (step s t) e 0 ms × (cs ≡ drop e t) × (0 < e)

  pub leads : {e : ℕ} {cs : List ℕ} {ms : List Msg} → Laid s e cs ms t → Led e cs ms
  leads l = at l refl
    where
      at : {e : ℕ} {cs bs : List ℕ} {ms : List Msg} → Laid s e cs ms bs → bs ≡ t → Led e cs ms
      at (frame h b {bs = bs} r k) c =
          let d : length h + (length b + length bs) ≡ length t = simp length-append at (ap length c) in
          let n : first_len s t ≡ length b = first-len h b bs r c in
          let u : drop (H s) t ≡ b ++ bs = rw (← c) (drop_at h (b ++ bs) (H s) r.header) in
          let x = says-head CTR h (b ++ bs) r.header c in
          let v = first_only s t (is-packet (omega (arith, r.some)) (omega (arith, r.header))) ∙ shows t (H s) b bs n x u in
          let on = follow s t k (omega (arith, r.some)) (sym (behind t (H s) (length b) b bs refl (sym u))) in
          (takes v on.0, on.1, omega (arith, r.some, further-on k))

  -- where the steps lead to from the start: to itself, or to a packet's end
  pub data Reached : ℕ → List Msg → Type 0 where
    start_itself : Reached 0 []
    packet-end : {k : ℕ} {ms : List Msg} → 0 < k → Laid s k (drop k t) ms t → Reached k ms

  frame-sized : {e n x : ℕ} {cs bs : List ℕ} {ms : List Msg} (h b : List ℕ) → length b ≡ n → x ≡ says CTR (fields s) h 0 → t ≡ h ++ (b ++ bs)
      → Head s h b bs → Further s.align e cs (H s + n) ms bs → Laid s e cs (record { at = H s; packet = b; ctr = x } ∷ ms) t
  frame-sized h b w x c r k = rw (x, c) (frame h b r (rw (← w) at k))

  begin : {k j : ℕ} {m : Msg} {ms : List Msg} → First s t (entry m j) → (0 < j → Further s.align k (drop k t) j ms (drop j t))
      → Reached k (m ∷ ms)
  begin {k} (is-packet z l) on =
      let n : ℕ = first_len s t in
      let h : List ℕ = take (H s) t in
      let b : List ℕ = take n (drop (H s) t) in
      let bs : List ℕ = drop (H s + n) t in
      let lh : length h ≡ H s = simp length-take (omega arith) in
      let lb : length b ≡ n = long t (H s) n l in
      let c : h ++ (b ++ bs) ≡ t = ap (λ y. h ++ y) (sym (cut t (H s) n)) ∙ take-append-drop (H s) t in
      let r : Head s h b bs =
      record {
        header = lh;
        some = omega arith;
        all = λ y. drop_of_length-le t {i = H s + n} (omega (arith, first-all s t y));
        len = λ y. sym (says-head LEN h (b ++ bs) lh c) ∙ sym (first_said s t y) ∙ sym lb;
      } in
      let f = on (omega arith) in
      let y : 0 < k = omega (arith, further-on f) in
      packet-end y (frame-sized h b lb (says-head CTR h (b ++ bs) lh c) (sym c) r f)

  pub reached : {k : ℕ} {ms : List Msg} → Leads (step s t) k 0 ms → Reached k ms
  reached l = at l refl
    where
      at : {k q : ℕ} {ms : List Msg} → Leads (step s t) k q ms → q ≡ 0 → Reached k ms
      at {k} stay z = rw z start_itself
      at (takes e l) z = begin (rw (rw z at e) at (first s t)) (further s t l)
      at (skips e l) z = absurd (first_passes s t (rw (rw z at e) at (first s t)))
