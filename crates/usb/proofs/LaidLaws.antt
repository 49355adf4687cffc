-- What is laid out at a place is what the step sees there, and what it sees is laid out: messages, rests, and broken rules.
use Prim.Native.Nat.{ℕ, ◌+◌, ◌-◌, ◌%◌, ◌<◌, ◌≤◌}
use native.Mathlib.Omega.{arith}
use mathlib.Core.Path.{◌≡◌, refl, sym, ap, ◌∙◌}
use mathlib.Core.Bool.{Bool, true, false, cond}
use mathlib.Core.List.{List, [], ◌∷◌, ◌++◌, append_assoc}
use lib.ListN.{length, take, drop, length-append, length-drop, drop_of_length-le}
use lib.Seq.{take_at}
use lib.Dec.{ltb}
use borrow.Author.Tests.{ltb-true, ltb-false, lt-ltb, le-ltb}
use Rattle.layout.specs.Field.{says, Name.LEN, Name.CTR}
use Rattle.layout.specs.Multiple.{pad}
use Rattle.layout.specs.Walk.{Step, Forward, Leads, Step.done, Step.entry, Step.pass, Step.fault, Leads.here, Leads.takes, Leads.skips}
use Rattle.layout.proofs.FieldLaws.{says_here, says-drop}
use Rattle.layout.proofs.MultipleLaws.{pad_less, pad-whole, pad_only}
use Rattle.layout.proofs.PartLaws.{cut, long, behind}
use Rattle.packet.specs.Message.{Msg}
use Rattle.packet.specs.Seen.{as_step}
use Rattle.usb.specs.declared.Setting.{Setting}
use Rattle.usb.specs.Reading.{Verdict, Verdict.TakeRest, Verdict.TakeMessage}
use Rattle.usb.specs.Setting.{fields, H, whole}
use Rattle.usb.specs.Layout.{Message, Reaches, Rest, Laid}
use Rattle.usb.specs.Reading.{space, len_at, room, answer, seen, step}
use Rattle.usb.specs.Refusal.{Header, Past, Broken}
use Rattle.usb.proofs.SettingLaws.{Good, into}
use Rattle.usb.proofs.StepLaws.{Open, Judged, judged, decided}

module _ (s : Setting) (t : List ℕ) where
  len-fits : (q : ℕ) → H s ≤ space s t q → len_at s t q ≡ says LEN (fields s) t q
  unfolding len_at
  len-fits q h = rw (le-ltb (space s t q) (H s) h)

  len-none : (q : ℕ) → space s t q < H s → len_at s t q ≡ 0
  unfolding len_at
  len-none q h = rw (lt-ltb (space s t q) (H s) h)

  -- a LEN that is not zero stands in a header that fits
  fits-at : (q : ℕ) → 0 < len_at s t q → H s ≤ space s t q
  fits-at q n = at (ltb (space s t q) (H s)) refl
    where
      at : (b : Bool) → ltb (space s t q) (H s) ≡ b → H s ≤ space s t q
      at true e = absurd (omega (arith, len-none q (ltb-true (space s t q) (H s) e)))
      at false e = ltb-false (space s t q) (H s) e

  step_is : (q : ℕ) {v : Verdict} → Judged s (q % s.datapacket) (length t - q) (len_at s t q) v → step s t q ≡ as_step t (answer s t q v)
  unfolding seen
  step_is q j = ap (λ w. as_step t (answer s t q w)) (decided s (q % s.datapacket) (length t - q) (len_at s t q) j)

---- From a layout to the steps -------------------------------------------------------------------------------------------------

-- a message has just the bytes that its packet's length gives it
pub message-whole : (s : Setting) → Good s → (q : ℕ) (h b e : List ℕ) → Message s q h b e → length h + length b + length e ≡ whole s (length b)
message-whole s g q h b e m =
    let hs : length h ≡ H s = m.header in
    let y = pad_only s.align (H s + length b) (length e) g.align (omega (arith, m.short)) (rw (← hs) m.whole) in
    omega arith

module _ (s : Setting) (g : Good s) (t : List ℕ) where
  at-message : (q : ℕ) (h b e bs : List ℕ) → Message s q h b e → h ++ (b ++ (e ++ bs)) ≡ drop q t
      → step s t q ≡ entry (record { at = q + length h; packet = b; ctr = says CTR (fields s) h 0 }) (q + (length h + length b + length e))
  at-message q h b e bs m c =
      let ls : length h + (length b + (length e + length bs)) ≡ length t - q = simp (length-append, length-drop) at (ap length c) in
      let hs : length h ≡ H s = m.header in
      let n : len_at s t q ≡ length b =
      len-fits s t q (omega arith) ∙ says_here LEN (fields s) q t h (b ++ (e ++ bs)) (omega arith) c ∙ m.len in
      let k : whole s (length b) ≡ length h + length b + length e = sym (message-whole s g q h b e m) in
      let o : Open s (q % s.datapacket) (length t - q) = record { some = omega arith; first = m.first } in
      let j : Judged s (q % s.datapacket) (length t - q) (len_at s t q) TakeMessage =
      Judged.message o (omega arith) (omega arith) (rw n (fits (ltb s.packing 2) refl ls k)) in
      let d : drop (q + H s) t ≡ b ++ (e ++ bs) = behind t q (H s) h (b ++ (e ++ bs)) hs c in
      let v : says CTR (fields s) t q ≡ says CTR (fields s) h 0 = says_here CTR (fields s) q t h (b ++ (e ++ bs)) (omega arith) c in
      step_is s t q j ∙ rw (n, d, v, k, ← hs, take_at b (e ++ bs) (length b) refl)
    where
      fits : (x : Bool) → ltb s.packing 2 ≡ x → length h + (length b + (length e + length bs)) ≡ length t - q
          → whole s (length b) ≡ length h + length b + length e → whole s (length b) ≤ cond x (space s t q) (length t - q)
      fits true u ls k = omega (arith, m.within (omega (arith, ltb-true s.packing 2 u)))
      fits false u ls k = omega arith

  at_rest : (q : ℕ) (r bs : List ℕ) → Rest s q r → Reaches s q r bs → r ++ bs ≡ drop q t → step s t q ≡ pass (q + length r)
  at_rest q r bs f z c =
      let ls : length r + length bs ≡ length t - q = simp (length-append, length-drop) at (ap length c) in
      let k : space s t q ≡ length r = omega (arith, z.full) in
      step_is s t q (verdict f ls k z.some) ∙ rw k
    where
      verdict : Rest s q r → length r + length bs ≡ length t - q → space s t q ≡ length r → 0 < length r
          → Judged s (q % s.datapacket) (length t - q) (len_at s t q) TakeRest
      verdict (Rest.any p o) ls k z = Judged.behind (omega arith) p o
      verdict (Rest.few p y) ls k z = Judged.bare (omega arith) p (len-none s t q (omega arith))
      verdict (Rest.zeroed p y e) ls k z =
          Judged.bare (omega arith) p (len-fits s t q (omega arith) ∙ says_here LEN (fields s) q t r bs y c ∙ e)

  pub leads : {p : ℕ} {cs : List ℕ} {q : ℕ} {ms : List Msg} {bs : List ℕ} → Laid s p cs q ms bs → bs ≡ drop q t → Leads (step s t) p q ms
  leads Laid.here c = here
  leads (Laid.message {q = q} h b e {bs = bs} m l) c =
      takes (at-message q h b e bs m c)
      (leads l (sym (behind t q (length h + length b + length e) (h ++ b ++ e) bs (simp length-append) (simp append_assoc c))))
  leads (Laid.rest {q = q} r {bs = bs} f z l) c =
      skips (at_rest q r bs f z c) (leads l (sym (behind t q (length r) r bs refl c)))

  -- at the end nothing is seen
  pub at-end : step s t (length t) ≡ done
  at-end = step_is s t (length t) (Judged.gone (omega arith))

  -- a header that stands at q, in numbers
  header-len : (q n : ℕ) → Header s q (drop q t) n → (len_at s t q ≡ n) × Open s (q % s.datapacket) (length t - q)
  header-len q n h =
      let l : length (drop q t) ≡ length t - q = length-drop q t in (
        len-fits s t q (omega (arith, h.enough, h.uncut)) ∙ sym (says-drop LEN (fields s) q t) ∙ h.len,
        record { some = omega (arith, h.enough, g.head); first = h.first },
      )

  pub at-broken : {q n : ℕ} → Broken s q (drop q t) n → step s t q ≡ fault n q
  at-broken {q} (Broken.over n h x) =
      let (e, o) = header-len q n h in
      step_is s t q (Judged.over o (omega (arith, h.some)) (omega arith))
  at-broken {q} (Broken.past n h x f) =
      let (e, o) = header-len q n h in
      step_is s t q (Judged.past o (omega (arith, h.some)) (omega arith) (rw e (runs f)))
    where
      runs : Past s q (drop q t) n → room s (q % s.datapacket) (length t - q) < whole s n
      runs (Past.leaves p y) = rw (lt-ltb s.packing 2 p) (omega (arith, into g q))
      runs (Past.ends y) = at (ltb s.packing 2) (simp length-drop at y)
        where
          at : (b : Bool) → length t - q < whole s n → cond b (space s t q) (length t - q) < whole s n
          at true y = omega arith
          at false y = y
  at-broken {q} (Broken.short p z l f) =
      let d : length (drop q t) ≡ length t - q = length-drop q t in
      step_is s t q (Judged.none (omega arith) p z (len-none s t q (omega arith)))
  at-broken {q} (Broken.zeroed p z l e) =
      let d : length (drop q t) ≡ length t - q = length-drop q t in
      let c : 8 ≤ s.datapacket = g.cut in
      let k : H s ≤ 4 = g.small in
      let h : 0 < H s = g.head in
      step_is s t q (Judged.none (omega arith) p z (len-fits s t q (omega arith) ∙ sym (says-drop LEN (fields s) q t) ∙ e))

---- From the steps to a layout -------------------------------------------------------------------------------------------------

-- what a step has seen, in the layout's terms
data Saw (s : Setting) (t : List ℕ) (q : ℕ) : Step Msg → Type 0 where
  saw_end : drop q t ≡ [] → Saw s t q done
  saw_message : {m : Msg} {k : ℕ} (h b e : List ℕ) → Message s q h b e → k ≤ length t
      → m ≡ record { at = q + length h; packet = b; ctr = says CTR (fields s) h 0 } → k ≡ q + (length h + length b + length e)
      → drop q t ≡ h ++ (b ++ (e ++ drop k t)) → Saw s t q (entry m k)
  saw_rest : {k : ℕ} (r : List ℕ) → Rest s q r → Reaches s q r (drop k t) → k ≤ length t → k ≡ q + length r
      → drop q t ≡ r ++ drop k t → Saw s t q (pass k)
  saw_fault : {n p : ℕ} → p ≡ q → Broken s q (drop q t) n → Saw s t q (fault n p)

module _ (s : Setting) (g : Good s) (t : List ℕ) where
  rest_at : (q : ℕ) → q < length t → Rest s q (take (space s t q) (drop q t)) → Saw s t q (pass (q + space s t q))
  rest_at q l f =
      let a : ℕ = space s t q in
      let b : q + a ≤ length t = omega arith in
      let w : length (take a (drop q t)) ≡ a = long t q a b in
      let z : Reaches s q (take a (drop q t)) (drop (q + a) t) =
      record { some = omega (arith, into g q); full = omega (arith, length-drop (q + a) t) } in
      saw_rest (take a (drop q t)) f z b (omega arith) (cut t q a)

  message-at : (q n : ℕ) → len_at s t q ≡ n → H s ≤ space s t q → Open s (q % s.datapacket) (length t - q) → 0 < n → n ≤ s.longest
      → whole s n ≤ room s (q % s.datapacket) (length t - q)
      → Saw s t q (entry (record { at = q + H s; packet = take n (drop (q + H s) t); ctr = says CTR (fields s) t q }) (q + whole s n))
  message-at q n d r o z x w =
      let u : ℕ = pad s.align (H s + n) in
      let h : List ℕ = take (H s) (drop q t) in
      let b : List ℕ = take n (drop (q + H s) t) in
      let e : List ℕ = take u (drop (q + H s + n) t) in
      let y : whole s n ≤ length t - q = within-left (ltb s.packing 2) w in
      let lh : length h ≡ H s = long t q (H s) (omega arith) in
      let lb : length b ≡ n = long t (q + H s) n (omega arith) in
      let le : length e ≡ u = long t (q + H s + n) u (omega (arith, g.head)) in
      let c : drop q t ≡ h ++ drop (q + H s) t = cut t q (H s) in
      let k : q + H s + n + u ≡ q + whole s n = omega arith in
      saw_message {m = record { at = q + H s; packet = b; ctr = says CTR (fields s) t q }} {k = q + whole s n} h b e
      (record {
        header = lh;
        len = sym (says_here LEN (fields s) q t h (drop (q + H s) t) (omega arith) (sym c)) ∙ sym (len-fits s t q r) ∙ d ∙ sym lb;
        least = omega arith;
        most = omega arith;
        short = omega (arith, pad_less s.align (H s + n) g.align);
        whole = rw (lh, lb, le) (pad-whole s.align (H s + n) g.align);
        uncut = omega (arith, into g q);
        within = λ v. omega (arith, rw (lt-ltb s.packing 2 v) at w, into g q);
        first = o.first;
      })
      (omega arith)
      (rw (lh, says_here CTR (fields s) q t h (drop (q + H s) t) (omega arith) (sym c)))
      (omega arith)
      (c ∙ ap (λ l. h ++ l) (cut t (q + H s) n ∙ ap (λ l. b ++ l) (cut t (q + H s + n) u ∙ ap (λ i. e ++ drop i t) k)))
    where
      within-left : (v : Bool) → whole s n ≤ cond v (space s t q) (length t - q) → whole s n ≤ length t - q
      within-left true w = omega arith
      within-left false w = w

  -- LEN zero, or no header
  bare_at : (q : ℕ) → q < length t → 0 < s.packing → len_at s t q ≡ 0 → Rest s q (take (space s t q) (drop q t))
  bare_at q l p n = at (ltb (space s t q) (H s)) refl (long t q (space s t q) (omega arith))
    where
      at : (b : Bool) → ltb (space s t q) (H s) ≡ b → length (take (space s t q) (drop q t)) ≡ space s t q
          → Rest s q (take (space s t q) (drop q t))
      at true e w = Rest.few p (omega (arith, ltb-true (space s t q) (H s) e))
      at false e w =
          let a : ℕ = space s t q in
          let y : H s ≤ a = ltb-false a (H s) e in
          Rest.zeroed p (omega arith)
          (sym (says_here LEN (fields s) q t (take a (drop q t)) (drop (q + a) t) (omega arith) (sym (cut t q a))) ∙ sym (len-fits s t q y) ∙ n)

  -- a header that fits, with the LEN that is read there
  header_at : (q n : ℕ) → len_at s t q ≡ n → Open s (q % s.datapacket) (length t - q) → 0 < n → Header s q (drop q t) n
  header_at q n e o z =
      let r : H s ≤ space s t q = fits-at s t q (omega arith) in
      record {
        enough = rw length-drop (omega arith);
        uncut = omega (arith, into g q);
        first = o.first;
        len = says-drop LEN (fields s) q t ∙ sym (len-fits s t q r) ∙ e;
        some = z;
      }

  past-at : (q n : ℕ) → room s (q % s.datapacket) (length t - q) < whole s n → Past s q (drop q t) n
  past-at q n = at (ltb s.packing 2) refl
    where
      tight : (b : Bool) → ltb (length t - q) (whole s n) ≡ b → s.packing < 2 → space s t q < whole s n → Past s q (drop q t) n
      tight true e p w = Past.ends (rw length-drop (ltb-true (length t - q) (whole s n) e))
      tight false e p w = Past.leaves p (omega (arith, ltb-false (length t - q) (whole s n) e, into g q))

      at : (b : Bool) → ltb s.packing 2 ≡ b → cond b (space s t q) (length t - q) < whole s n → Past s q (drop q t) n
      at true e w = tight (ltb (length t - q) (whole s n)) refl (ltb-true s.packing 2 e) w
      at false e w = Past.ends (rw length-drop w)

  none-at : (q : ℕ) → q < length t → s.packing ≡ 0 → q % s.datapacket ≡ 0 → len_at s t q ≡ 0 → Broken s q (drop q t) 6
  none-at q l p z n = at (ltb (space s t q) (H s)) refl
    where
      at : (b : Bool) → ltb (space s t q) (H s) ≡ b → Broken s q (drop q t) 6
      at true e =
          let d : length (drop q t) ≡ length t - q = length-drop q t in
          Broken.short p z (omega arith) (omega (arith, ltb-true (space s t q) (H s) e))
      at false e =
          let r : H s ≤ space s t q = ltb-false (space s t q) (H s) e in
          Broken.zeroed p z (rw length-drop (omega arith)) (says-drop LEN (fields s) q t ∙ sym (len-fits s t q r) ∙ n)

  saw : (q : ℕ) {v : Verdict} → Judged s (q % s.datapacket) (length t - q) (len_at s t q) v → Saw s t q (as_step t (answer s t q v))
  saw q (Judged.gone h) = saw_end (drop_of_length-le t {i = q} (omega arith))
  saw q (Judged.behind l p o) = rest_at q (omega arith) (Rest.any p o)
  saw q (Judged.bare l p n) = rest_at q (omega arith) (bare_at q (omega arith) p n)
  saw q (Judged.none l p z n) = saw_fault refl (none-at q (omega arith) p z n)
  saw q (Judged.over o n x) = saw_fault refl (Broken.over (len_at s t q) (header_at q (len_at s t q) refl o n) x)
  saw q (Judged.past o n x w) = saw_fault refl (Broken.past (len_at s t q) (header_at q (len_at s t q) refl o n) x (past-at q (len_at s t q) w))
  saw q (Judged.message o n x w) = message-at q (len_at s t q) refl (fits-at s t q n) o n x w

  seen_saw : (q : ℕ) → Saw s t q (step s t q)
  unfolding seen
  seen_saw q = saw q (judged s (q % s.datapacket) (length t - q) (len_at s t q))

  moves : {q : ℕ} {v : Step Msg} → Saw s t q v → Forward (length t) q v
  moves (saw_end e) = tt
  moves (saw_message h b e f l c d x) = (omega (arith, f.least), l)
  moves (saw_rest r f z l d x) = (omega (arith, z.some), l)
  moves (saw_fault e f) = tt

  pub forward : (q : ℕ) → Forward (length t) q (step s t q)
  forward q = moves (seen_saw q)

  pub ends_there : (q : ℕ) → step s t q ≡ done → drop q t ≡ []
  ends_there q e = at (rw e at (seen_saw q))
    where
      at : Saw s t q done → drop q t ≡ []
      at (saw_end d) = d

  pub breaks_there : {q n p : ℕ} → step s t q ≡ fault n p → (p ≡ q) × Broken s q (drop q t) n
  breaks_there {q} {n} {p} e = at (rw e at (seen_saw q))
    where
      at : Saw s t q (fault n p) → (p ≡ q) × Broken s q (drop q t) n
      at (saw_fault d f) = (d, f)

  lay_message : {p q k : ℕ} {cs : List ℕ} {m : Msg} {ms : List Msg} → Saw s t q (entry m k) → Laid s p cs k ms (drop k t)
      → Laid s p cs q (m ∷ ms) (drop q t)
  lay_message {ms = ms} (saw_message {k = k} h b e f l c d x) r = rw (c, x) (Laid.message h b e {bs = drop k t} {ms = ms} f (rw (← d) r))

  lay_rest : {p q k : ℕ} {cs : List ℕ} {ms : List Msg} → Saw s t q (pass k) → Laid s p cs k ms (drop k t) → Laid s p cs q ms (drop q t)
  lay_rest {ms = ms} (saw_rest {k = k} r f z l d x) y = rw x (Laid.rest r {bs = drop k t} {ms = ms} f z (rw (← d) y))

  pub lay : {k q : ℕ} {ms : List Msg} → Leads (step s t) k q ms → Laid s k (drop k t) q ms (drop q t)
  lay here = Laid.here
  lay (takes {q = q} e l) = lay_message (rw e at (seen_saw q)) (lay l)
  lay (skips {q = q} e l) = lay_rest (rw e at (seen_saw q)) (lay l)
