-- A message that was read is shown by its part: asked for by place and length, the part has exactly the packet's bytes. Once for every layout.
use Rattle.std.proofs.Common.{◌≡◌, ℕ, zero, suc, ◌+◌, ◌-◌, min, Bool, true, false, cond, leb, List}
use Rattle.std.proofs.Common.{[], ◌∷◌, length, take, drop, sym, refl, ap, arith, length-drop, drop_of_length-le, length-take, leb-false}
use lib.Seq.{take-nil}
use Rattle.layout.specs.Walk.{Leads, Step.entry, Leads.here, Leads.takes, Leads.skips}
use Rattle.packet.specs.declared.Found.{Found}
use Rattle.packet.specs.Seen.{Seen, Seen as S}
use Rattle.packet.specs.Message.{Msg}
use Rattle.packet.specs.Part.{part_of}
use Rattle.packet.specs.Seen.{message, as_step}
use Rattle.packet.proofs.PacketsLaws.{Each}

module _ (t : List ℕ) where
  -- the part of a message is its packet
  abbrev pub Shown : Msg → Type 0
  Shown m = part_of t m.at (length m.packet) ≡ m.packet

  -- as many bytes as are there are all that are taken
  taken : (n : ℕ) (l : List ℕ) → take (length (take n l)) l ≡ take n l
  taken zero l = refl
  taken (suc n) [] = refl
  taken (suc n) (x ∷ l) = ap (λ ys. x ∷ ys) (taken n l)

  message-shown : (m : Found) → Shown (message t m)
  message-shown m = at (leb (m.at + length (take m.len (drop m.at t))) (length t)) refl
    where
      b : List ℕ
      b = take m.len (drop m.at t)

      at : (x : Bool) → leb (m.at + length b) (length t) ≡ x → cond x (take (length b) (drop m.at t)) [] ≡ b
      at true e = taken m.len (drop m.at t)
      at false e =
          let n : length b ≡ min m.len (length t - m.at) = rw (length-take, length-drop) in
          let d : drop m.at t ≡ [] =
          drop_of_length-le t {i = m.at} (omega (arith, leb-false (m.at + length b) (length t) e)) in
          sym (rw d (take-nil m.len))

  entry-shown : (v : Seen) {m : Msg} {k : ℕ} → as_step t v ≡ entry m k → Shown m
  entry-shown S.Nothing e = let z : ◌≡◌ {A = ℕ} 0 1 = cc in absurd (omega arith)
  entry-shown (S.Message f a) {m} e = let d : message t f ≡ m = cc in rw (← d) (message-shown f)
  entry-shown (S.Rest a) e = let z : ◌≡◌ {A = ℕ} 0 1 = cc in absurd (omega arith)
  entry-shown (S.Refused n p) e = let z : ◌≡◌ {A = ℕ} 0 1 = cc in absurd (omega arith)

  pub shown : (see : ℕ → Seen) {k q : ℕ} {ms : List Msg} → Leads (λ q. as_step t (see q)) k q ms → Each Shown ms
  shown see here = tt
  shown see (takes {q = q} e l) = (entry-shown (see q) e, shown see l)
  shown see (skips e l) = shown see l
