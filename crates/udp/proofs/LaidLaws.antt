-- What is laid out at a place is what the step sees there, and what it sees is laid out: messages, and broken rules.
use Prim.Native.Nat.{ℕ, ◌+◌, ◌-◌, ◌<◌, ◌≤◌}
use native.Mathlib.Omega.{arith}
use mathlib.Core.Path.{◌≡◌, refl, sym, ap, ◌∙◌}
use mathlib.Core.List.{List, ◌∷◌, ◌++◌, append_assoc}
use lib.ListN.{length, take, drop, length-append, length-drop}
use lib.Seq.{take_at}
use Rattle.layout.specs.Field.{says, Name.LEN, Name.CTR}
use Rattle.layout.specs.Walk.{Step, Forward, Leads, Step.done, Step.entry, Step.pass, Step.fault, Leads.here, Leads.takes, Leads.skips}
use Rattle.layout.proofs.FieldLaws.{says_here, says-drop}
use Rattle.layout.proofs.OutcomeLaws.{Keeps}
use Rattle.layout.proofs.PartLaws.{cut, long, behind}
use Rattle.packet.specs.Message.{Msg}
use Rattle.packet.specs.Seen.{as_step}
use Rattle.packet.specs.Seen.{Seen}
use Rattle.udp.specs.declared.Setting.{Setting}
use Rattle.udp.specs.Setting.{fields, H}
use Rattle.udp.specs.Layout.{Message, Laid}
use Rattle.udp.specs.Reading.{step}
use Rattle.udp.specs.Refusal.{Header, Broken}
use Rattle.udp.proofs.SettingLaws.{head-size}
use Rattle.udp.proofs.SeenLaws.{len, View, view, decided}

-- the message of a header h and a packet b at place q
abbrev sent : (q : ℕ) (h b : List ℕ) → Msg
sent q h b = record { at = q + length h; packet = b; ctr = says CTR fields h 0 }

module _ (s : Setting) (t : List ℕ) where
  step_is : (q : ℕ) {v : Seen} → View s t q v → step s t q ≡ as_step t v
  step_is q v = ap (as_step t) (decided s t q v)

  ---- From a layout to the steps -----------------------------------------------------------------------------------------------

  at-message : (q : ℕ) (h b bs : List ℕ) → Message s h b → h ++ (b ++ bs) ≡ drop q t
      → step s t q ≡ entry (sent q h b) (q + (length h + length b))
  at-message q h b bs m c =
      let ls : length h + (length b + length bs) ≡ length t - q = simp (length-append, length-drop) at (ap length c) in
      let hs : length h ≡ H = m.header in
      let big = head-size in
      let n : len s t q ≡ length b = says_here LEN fields q t h (b ++ bs) (omega arith) c ∙ m.len in
      let v : says CTR fields t q ≡ says CTR fields h 0 = says_here CTR fields q t h (b ++ bs) (omega arith) c in
      let d : drop (q + H) t ≡ b ++ bs = behind t q H h (b ++ bs) hs c in
      step_is q (View.message (omega (arith, m.least)) (omega (arith, m.most)) (omega (arith, m.least)))
      ∙ rw (n, d, v, ← hs, take_at b bs (length b) refl)

  leads : {p : ℕ} {cs : List ℕ} {q : ℕ} {ms : List Msg} {bs : List ℕ} → Laid s p cs q ms bs → bs ≡ drop q t → Leads (step s t) p q ms
  leads Laid.here c = here
  leads (Laid.message {q = q} h b {bs = bs} m l) c =
      takes (at-message q h b bs m c)
      (leads l (sym (behind t q (length h + length b) (h ++ b) bs (length-append h b) (append_assoc h b bs ∙ c))))

  -- a header at q, in numbers
  header-len : (q n : ℕ) → Header (drop q t) n → (len s t q ≡ n) × (q + H ≤ length t)
  header-len q n h = (sym (says-drop LEN fields q t) ∙ h.len, omega (arith, h.enough, length-drop q t))

  at-broken : {q n : ℕ} → Broken s (drop q t) n → step s t q ≡ fault n q
  at-broken {q} (Broken.zeroed h) = let (e, l) = header-len q 0 h in step_is q (View.zeroed l e)
  at-broken {q} (Broken.over n h x) = let (e, l) = header-len q n h in step_is q (View.over l (omega arith))
  at-broken {q} (Broken.past n h z x f) =
      let (e, l) = header-len q n h in
      step_is q (View.past l (omega arith) (omega arith) (omega (arith, length-drop q t)))
  at-broken {q} (Broken.few z f) = step_is q (View.few (omega (arith, length-drop q t)) (omega (arith, length-drop q t)))

  ---- From the steps to a layout -----------------------------------------------------------------------------------------------

  -- what a step has seen, in the layout's terms
  data Saw (q : ℕ) : Step Msg → Type 0 where
    saw_end : length t ≤ q → Saw q done
    saw_message : {m : Msg} {k : ℕ} (h b : List ℕ) → Message s h b → k ≤ length t → m ≡ sent q h b → k ≡ q + (length h + length b)
        → drop q t ≡ h ++ (b ++ drop k t) → Saw q (entry m k)
    saw_fault : {n p : ℕ} → p ≡ q → Broken s (drop q t) n → Saw q (fault n p)

  -- a header that fits
  header_at : (q : ℕ) → q + H ≤ length t → Header (drop q t) (len s t q)
  header_at q h = record { enough = omega (arith, length-drop q t); len = says-drop LEN fields q t }

  message-at : (q n : ℕ) → len s t q ≡ n → 0 < n → n ≤ s.longest → q + (H + n) ≤ length t
      → Saw q (entry (record { at = q + H; packet = take n (drop (q + H) t); ctr = says CTR fields t q }) (q + (H + n)))
  message-at q n d z x w =
      let h : List ℕ = take H (drop q t) in
      let b : List ℕ = take n (drop (q + H) t) in
      let lh : length h ≡ H = long t q H (omega arith) in
      let lb : length b ≡ n = long t (q + H) n (omega arith) in
      let c : drop q t ≡ h ++ drop (q + H) t = cut t q H in
      let big = head-size in
      let k : q + H + n ≡ q + (H + n) = omega arith in
      saw_message {m = record { at = q + H; packet = b; ctr = says CTR fields t q }} {k = q + (H + n)} h b
      (record {
        header = lh;
        len = sym (says_here LEN fields q t h (drop (q + H) t) (omega arith) (sym c)) ∙ d ∙ sym lb;
        least = omega arith;
        most = omega arith;
      })
      w (rw (lh, says_here CTR fields q t h (drop (q + H) t) (omega arith) (sym c))) (omega arith)
      (c ∙ ap (λ l. h ++ l) (cut t (q + H) n ∙ ap (λ i. b ++ drop i t) k))

  saw : (q : ℕ) {v : Seen} → View s t q v → Saw q (as_step t v)
  saw q (View.gone h) = saw_end h
  saw q (View.few l h) = saw_fault refl (Broken.few (omega (arith, length-drop q t)) (omega (arith, length-drop q t)))
  saw q (View.zeroed h e) = saw_fault refl (Broken.zeroed (rw e at (header_at q h)))
  saw q (View.over h l) = saw_fault refl (Broken.over (len s t q) (header_at q h) l)
  saw q (View.past h z l x) = saw_fault refl (Broken.past (len s t q) (header_at q h) z l (omega (arith, length-drop q t)))
  saw q (View.message z l x) = message-at q (len s t q) refl z l x

  seen_saw : (q : ℕ) → Saw q (step s t q)
  seen_saw q = saw q (view s t q)

  moves : {q : ℕ} {v : Step Msg} → Saw q v → Forward (length t) q v
  moves (saw_end e) = tt
  moves (saw_message h b f l c d x) = (omega (arith, f.least), l)
  moves (saw_fault e f) = tt

  pub forward : (q : ℕ) → Forward (length t) q (step s t q)
  forward q = moves (seen_saw q)

  ends_there : (q : ℕ) → q ≤ length t → step s t q ≡ done → q ≡ length t
  ends_there q l e = at (rw e at (seen_saw q))
    where
      at : Saw q done → q ≡ length t
      at (saw_end d) = omega arith

  breaks_there : {q n p : ℕ} → step s t q ≡ fault n p → (p ≡ q) × Broken s (drop q t) n
  breaks_there {q} {n} {p} e = at (rw e at (seen_saw q))
    where
      at : Saw q (fault n p) → (p ≡ q) × Broken s (drop q t) n
      at (saw_fault d f) = (d, f)

  lay_message : {p q k : ℕ} {cs : List ℕ} {m : Msg} {ms : List Msg} → Saw q (entry m k) → Laid s p cs k ms (drop k t)
      → Laid s p cs q (m ∷ ms) (drop q t)
  lay_message {q = q} {ms = ms} (saw_message {k = k} h b f l c d x) r =
      rw (c, x) (Laid.message {q = q} h b {bs = drop k t} {ms = ms} f (rw (← d) r))

  -- nothing is passed over
  abbrev Taken : Step Msg → Type 0
  Taken done = Unit {0}
  Taken (entry m k) = Unit {0}
  Taken (pass k) = ⊥
  Taken (fault n p) = Unit {0}

  taken : {q : ℕ} {v : Step Msg} → Saw q v → Taken v
  taken (saw_end e) = tt
  taken (saw_message h b f l c d x) = tt
  taken (saw_fault e f) = tt

  lay : {k q : ℕ} {ms : List Msg} → Leads (step s t) k q ms → Laid s k (drop k t) q ms (drop q t)
  lay here = Laid.here
  lay (takes {q = q} e l) = lay_message (rw e at (seen_saw q)) (lay l)
  lay (skips {q = q} e l) = absurd (rw e at (taken (seen_saw q)))

  -- so the steps keep to the layout
  pub keeps : Keeps (step s t) (length t) (λ p ms. Laid s p (drop p t) 0 ms t) (λ p n. Broken s (drop p t) n)
  keeps =
      record {
        forward = forward;
        leads = λ l. leads l refl;
        lay = lay;
        at-end = step_is (length t) (View.gone (omega arith));
        ends_there = ends_there;
        at-broken = at-broken;
        breaks_there = breaks_there;
      }

  pub leads-from : {p : ℕ} {cs : List ℕ} {ms : List Msg} → Laid s p cs 0 ms t → Leads (step s t) p 0 ms
  leads-from l = leads l refl
