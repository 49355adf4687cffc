-- A frame's header, put field by field, and the byte that evens the frame are those of the definitions.
use Prim.Native.Nat.{ℕ, ◌+◌, ◌-◌, ◌%◌}
use native.Mathlib.Omega.{arith}
use mathlib.Core.Path.{◌≡◌, refl, ◌∙◌}
use mathlib.Core.Bool.{Bool, cond, not, ◌&&◌}
use mathlib.Core.List.{List, []}
use lib.ListN.{length, set, replicate, length-replicate}
use lib.Seq.{sets, length-sets}
use lib.Dec.{eqb}
use borrow.Author.Tests.{eq-eqb, ne_eqb}
use Rattle.layout.specs.Field.{size, width, bytes, values, puts, Name.LEN, Name.CTR}
use Rattle.layout.proofs.FieldLaws.{length-bytes}
use Rattle.layout.proofs.TableLaws.{alike}
use Rattle.store.proofs.StoreLaws.{at_front}
use Rattle.plan.specs.declared.Plan.{Plan}
use Rattle.flexray.specs.Setting.{headers, header}
use Rattle.flexray.specs.Writing.{evening}
use Rattle.flexray_plan.specs.Plan.{setting, Started}
use Rattle.flexray_writer.specs.Writes.{head_bytes, Leading, Evening}

-- free bytes, and then the node, CTR and LEN
abbrev stamped : (z lw cw node n ctr free : ℕ) → List ℕ
stamped z lw cw node n ctr free = sets (sets (sets (replicate z free) 0 (bytes 1 node)) 1 (bytes cw ctr)) (z - lw) (bytes lw n)

-- in every header the node is the first byte, CTR the next, LEN the last, and the rest is free: one equation over the whole table
header_stamped : (i node n ctr free : ℕ)
    → stamped (size (header i).fields) (width LEN (header i).fields) (width CTR (header i).fields) node n ctr free
    ≡ puts (values node n ctr) free (header i).fields
unfolding headers
header_stamped i node n ctr free =
    alike (λ h. stamped (size h.fields) (width LEN h.fields) (width CTR h.fields) node n ctr free)
    (λ h. puts (values node n ctr) free h.fields) (record { fields = []; aligns = [] }) headers i refl refl

pub header-put : {p : Plan} {out : List ℕ} → Leading p out → (n ctr free : ℕ) {c : ℕ} {one two three new : List ℕ} → c ≡ ctr
    → one ≡ sets out 0 (replicate p.size free) → two ≡ sets one 0 (bytes 1 p.node) → three ≡ sets two 1 (bytes p.ctrwidth c)
    → new ≡ sets three (p.size - p.lenwidth) (bytes p.lenwidth n) → new ≡ sets out 0 (head_bytes (setting p) free ctr n)
header-put {p} {out} l n ctr free {two = two} {three = three} f x y z v =
    let k = l.ready in
    let h : List ℕ = replicate p.size free in
    let i : List ℕ = sets h 0 (bytes 1 p.node) in
    let j : List ℕ = sets i 1 (bytes p.ctrwidth ctr) in
    let long : length j ≡ p.size = rw (length-sets i, length-sets h) (length-replicate p.size free) in
    let d : two ≡ sets out 0 i = y ∙ rw x (at_front (bytes 1 p.node) h out 0 (simp length-replicate (omega (arith, k.size-least)))) in
    let e : three ≡ sets out 0 j =
    z ∙ rw (d, f) (at_front (bytes p.ctrwidth ctr) i out 1 (simp (length-sets, length-replicate, length-bytes) (omega (arith, k.apart)))) in
    let s : sets j (p.size - p.lenwidth) (bytes p.lenwidth n) ≡ head_bytes (setting p) free ctr n =
    rw (k.size, k.lenwidth, k.ctrwidth) (header_stamped p.header p.node n ctr free) in
    v ∙ rw (e, ← s) (at_front (bytes p.lenwidth n) j out (p.size - p.lenwidth) (rw (long, length-bytes) (omega (arith, k.apart))))

module _ {p : Plan} {out : List ℕ} {e : ℕ} (v : Evening p out e) (free : ℕ) where
  pub even : e % 2 ≡ 0 → out ≡ sets out e (evening (setting p) free e)
  unfolding evening
  even h = rw (eq-eqb (e % 2) 0 h)

  pub odd : (e % 2 ≡ 0 → ⊥) → {r x : ℕ} {z : Bool} → Started p.align e r → z ≡ (not (eqb p.lenwidth 0) && eqb r (e + 1))
      → x ≡ cond z 0 free → set out e x ≡ sets out e (evening (setting p) free e)
  unfolding evening
  odd h s i j = rw (ne_eqb (e % 2) 0 h, j, i, s.is, v.ready.lenwidth)

pub ruleset evenings = (even, odd)
