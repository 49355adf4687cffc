-- A rest and a message that are put byte by byte are those of the definitions.
use Prim.Native.Nat.{ℕ, zero, suc, ◌+◌, ◌*◌, ◌-◌, ◌/◌, ◌%◌, ◌<◌, ◌≤◌}
use native.Mathlib.Omega.{arith}
use borrow.Author.Rules.{rules}
use native.Mathlib.Nat.{zero-add, add-zero, div-add-mod'}
use mathlib.Core.Path.{◌≡◌, refl, sym, ap, ◌∙◌}
use mathlib.Core.Logic.{inl, inr}
use mathlib.Core.Bool.{Bool, true, false, ◌&&◌}
use mathlib.Core.List.{List, ◌++◌, append-nil, append_assoc}
use lib.ListN.{length, take, drop, set, replicate, length-append, length-replicate}
use lib.Seq.{sets, sets-eq, take_all, length-take-le, set-set}
use lib.Dec.{eqb, leb, ltb}
use borrow.Author.Tests.{leb-true, leb-false, eqb-true, eqb-false, ne_eqb, lt-leb, ltb-true, ltb-false}
use Rattle.layout.specs.Field.{bytes}
use Rattle.layout.specs.Leaf.{Within}
use Rattle.layout.specs.Multiple.{pad, Aligned}
use Rattle.layout.proofs.FieldLaws.{length-bytes}
use Rattle.layout.proofs.MultipleLaws.{pad_less, pad-whole, aligned_power}
use Rattle.layout.proofs.RunLaws.{sets-append}
use Rattle.layout.proofs.TestLaws.{and_right}
use Rattle.plan.specs.declared.Plan.{Plan}
use Rattle.plan.specs.Place.{rests, behind_at, Beyond}
use Rattle.plan.proofs.CaseLaws.{by_test}
use Rattle.plan.proofs.PlaceLaws.{behind-on, untailed as align-one}
use Rattle.store.specs.Store.{Short}
use Rattle.std.proofs.lemmas.List.{drop-replicate}
use Rattle.store.proofs.OverLaws.{front_over}
use Rattle.store.proofs.StoreLaws.{sets-within, lent-rest}
use Rattle.sizing.specs.Places.{whole_of, Formed}
use Rattle.writing.specs.Bytes.{rest_bytes, head_bytes, message_bytes, last_of, over, Skipping, Headed, Tailing, Fitting, Passing}

---- Rests ----------------------------------------------------------------------------------------------------------------------

-- a run at the front of free bytes
front : (vs : List ℕ) (n b : ℕ) → length vs ≤ n → sets (replicate n b) 0 vs ≡ vs ++ replicate (n - length vs) b
front vs n b h =
    let l : length (replicate n b) ≡ n = length-replicate n b in
    sets-eq vs (replicate n b) 0 (omega arith) ∙ rw (zero-add (length vs), drop-replicate (length vs) n b)

-- few enough to go by a store or two
pub skip_few : {p : Plan} {out : List ℕ} {at n : ℕ} → Skipping p out at n → 2 ≤ p.layout → Short out at n 0 8
skip_few s l = record { least = omega arith; most = s.few l; room = s.resting.room }

module _ {p : Plan} (k : Formed p) (free n : ℕ) where
  pub rest-length : length (rest_bytes p free n) ≡ n
  unfolding rest_bytes
  rest-length =
      by_test (rests p && leb p.size n)
      (λ e. rw e
      (simp (length-append, length-replicate, length-bytes)
      (omega (arith, k.sized.fields, leb-true p.size n (and_right (rests p) (leb p.size n) e)))))
      (λ e. rw e (length-replicate n free))

  module _ (out : List ℕ) (at : ℕ) where
    -- a rest of no bytes is no bytes
    pub rest-none : n ≡ 0 → out ≡ sets out at (rest_bytes p free n)
    rest-none e = ap (sets out at) (take_all 0 (rest_bytes p free n) (omega (arith, rest-length)))

    -- else free bytes, and a zero LEN over them where data packets may end with a rest and a header fits
    module _ {one : List ℕ} (x : one ≡ sets out at (replicate n free)) where
      pub rest-few : 2 ≤ p.layout → Skipping p out at n → one ≡ sets out at (rest_bytes p free n)
      unfolding rest_bytes
      rest-few l s =
          let o = ne_eqb p.layout 1 (λ e. omega arith) in
          x ∙ by_test (eqb p.layout 2) (λ g. rw (o, g, lt-leb p.size n (s.stream (eqb-true p.layout 2 g)))) (λ g. rw (o, g))

      module _ {r b : Bool} (u : r ≡ rests p) (e : b ≡ (r && leb p.size n)) where
        pub rest_free : b ≡ false → one ≡ sets out at (rest_bytes p free n)
        unfolding rest_bytes
        rest_free f = let g : rests p && leb p.size n ≡ false = sym (e ∙ rw u) ∙ f in x ∙ rw g

        fits : b ≡ true → p.size ≤ n
        fits f = leb-true p.size n (and_right r (leb p.size n) (sym e ∙ f))

        pub rest_field : b ≡ true → at + n ≤ length out → length one ≡ length out → Within one at p.lenwidth
        rest_field f l m = record { width = k.sized.len-narrow; inside = omega (arith, fits f, k.sized.fields) }

        pub rest-zeroed : {new : List ℕ} → new ≡ sets one at (bytes p.lenwidth 0) → b ≡ true → new ≡ sets out at (rest_bytes p free n)
        unfolding rest_bytes
        rest-zeroed y f =
            let w : length (bytes p.lenwidth 0) ≡ p.lenwidth = length-bytes p.lenwidth 0 in
            let d : length (replicate n free) ≡ n = length-replicate n free in
            let i = k.sized.fields in
            let g : rests p && leb p.size n ≡ true = sym (e ∙ rw u) ∙ f in
            let z : sets (replicate n free) 0 (bytes p.lenwidth 0) ≡ bytes p.lenwidth 0 ++ replicate (n - p.lenwidth) free =
            front (bytes p.lenwidth 0) n free (omega (arith, fits f)) ∙ rw w in
            y ∙ rw x
            (ap (λ i. sets (sets out at (replicate n free)) i (bytes p.lenwidth 0)) (sym (add-zero at))
            ∙ sets-within (bytes p.lenwidth 0) (replicate n free) out at 0 (omega (arith, fits f)) ∙ rw (z, g))

---- Headers --------------------------------------------------------------------------------------------------------------------

-- one free byte, or two
pub free_put : (out : List ℕ) (at n b : ℕ) → n ≤ 2 → (n ≡ 0 → ⊥) → set (set out at b) (at + n - 1) b ≡ sets out at (replicate n b)
free_put out at zero b h e = absurd (e refl)
free_put out at (suc zero) b h e = let k : at + 1 - 1 ≡ at = omega arith in rw (k, set-set)
free_put out at (suc (suc zero)) b h e = let k : at + 2 - 1 ≡ suc at = omega arith in rw k
free_put out at (suc (suc (suc n))) b h e = absurd (omega arith)

pub head-put : (p : Plan) (out : List ℕ) (n ctr free : ℕ) {c : ℕ} {one two new : List ℕ} → c ≡ ctr
    → one ≡ sets out 0 (bytes p.lenwidth n) → two ≡ sets one p.lenwidth (bytes p.ctrwidth c)
    → new ≡ sets two (p.lenwidth + p.ctrwidth) (replicate (p.size - p.lenwidth - p.ctrwidth) free)
    → new ≡ sets out 0 (head_bytes p free ctr n)
head-put p out n ctr free e x y z =
    let len : List ℕ = bytes p.lenwidth n in
    let count : List ℕ = bytes p.ctrwidth ctr in
    let f : List ℕ = replicate (p.size - p.lenwidth - p.ctrwidth) free in
    let l : length len ≡ p.lenwidth = length-bytes p.lenwidth n in
    let k : length count ≡ p.ctrwidth = length-bytes p.ctrwidth ctr in
    z ∙ rw (y, x, e)
    (sym (sets-append len (count ++ f) out 0 ∙ rw (l, zero-add p.lenwidth) (sets-append count f (sets out 0 len) p.lenwidth ∙ rw k)))

---- Tails ----------------------------------------------------------------------------------------------------------------------

-- a multiple of the alignment is as long as that
multiple_least : (a x : ℕ) → 0 < x → x % a ≡ 0 → a ≤ x
multiple_least a x h e = at (x / a) (div-add-mod' x a)
  where
    at : (q : ℕ) → q * a + x % a ≡ x → a ≤ x
    at zero d = absurd (omega arith)
    at (suc q) d = omega arith

-- below four the alignment is 1 or 2, and the tail one byte at most
pad-one : {a : ℕ} → Aligned a → a < 4 → (x : ℕ) → pad a x ≤ 1
pad-one {a} (inl e) l x = omega (arith, pad_less a x (omega arith))
pad-one {a} (inr (inl e)) l x = omega (arith, pad_less a x (omega arith))
pad-one (inr (inr (inl e))) l x = absurd (omega arith)
pad-one (inr (inr (inr e))) l x = absurd (omega arith)

module _ {p : Plan} (k : Formed p) where
  -- data packets' messages may have a tail, those of a frame and of a datagram have none
  tailed : p.layout ≤ 2 → eqb p.layout 3 ≡ false
  tailed f = ne_eqb p.layout 3 (λ e. omega arith)

  untailed : 2 < p.layout → (e : ℕ) → behind_at p e ≡ e
  untailed h e = by_test (eqb p.layout 3) (λ g. rw g)
      (λ g. let f = eqb-false p.layout 3 g in align-one p (k.unaligned (omega (arith, k.layout-most))) e)

  module _ (n : ℕ) {w : ℕ} (v : Beyond (whole_of p n) (p.size + n) w) where
    reached : p.layout ≤ 2 → p.align ≤ w
    reached f =
        let e : w ≡ p.size + n + pad p.align (p.size + n) = v.is ∙ rw (tailed f) in
        let m = pad-whole p.align (p.size + n) (aligned_power k.sized.aligned).low in
        multiple_least p.align w (omega (arith, v.on, k.sized.size-least)) (rw e m)

    -- the last bytes lie inside the message, and hold the tail
    last-bytes : (w ≤ p.size + n + last_of p) × (last_of p ≤ w)
    last-bytes =
        by_test (ltb 2 p.layout) (λ g. let e = v.is ∙ untailed (ltb-true 2 p.layout g) (p.size + n) in rw g (omega arith, omega arith))
        (λ g. let f = ltb-false 2 p.layout g in
        let e : w ≡ p.size + n + pad p.align (p.size + n) = v.is ∙ rw (tailed f) in
        by_test (leb 4 p.align)
        (λ h. let l = pad_less p.align (p.size + n) (aligned_power k.sized.aligned).low in
        rw (g, h) (omega arith, reached f))
        (λ h. let l = pad-one k.sized.aligned (leb-false 4 p.align h) (p.size + n) in
        rw (g, h) (omega arith, omega (arith, v.on, k.sized.size-least))))

  ---- Messages -----------------------------------------------------------------------------------------------------------------

  pub head-length : (free c n : ℕ) → length (head_bytes p free c n) ≡ p.size
  head-length free c n = simp (length-append, length-replicate, length-bytes) (omega (arith, k.sized.fields))

  whole-put : (out b : List ℕ) (ctr free : ℕ) {w : ℕ} {end one new : List ℕ} → Beyond (whole_of p (length b)) (p.size + length b) w
      → end ≡ sets out (w - last_of p) (replicate (last_of p) free) → one ≡ sets end 0 (head_bytes p free ctr (length b))
      → new ≡ sets one p.size b → new ≡ sets out 0 (message_bytes p free ctr b)
  whole-put out b ctr free {w} {end} {one} {new} v z x y =
      let n : ℕ = length b in
      let hs : List ℕ = head_bytes p free ctr n in
      let i : ℕ = last_of p in
      let (low, high) = last-bytes n v in
      let l : length hs ≡ p.size = head-length free ctr n in
      let m : length (hs ++ b) ≡ p.size + n = length-append hs b ∙ rw l in
      let both : new ≡ sets end 0 (hs ++ b) = y ∙ rw x (sym (sets-append hs b end 0 ∙ rw (l, zero-add p.size))) in
      let f : List ℕ = replicate i free in
      let j : ℕ = w - i in
      let front : sets (sets out j f) 0 (hs ++ b) ≡ sets out 0 ((hs ++ b) ++ drop (length (hs ++ b) - j) f) =
      rw zero-add at (front_over (hs ++ b) f out 0 j (omega arith)) in
      let e : i - (length (hs ++ b) - j) ≡ w - (p.size + n) = omega (arith, v.on) in
      both ∙ rw z (front ∙ rw (drop-replicate (length (hs ++ b) - j) i free, e, append_assoc hs b (replicate (w - (p.size + n)) free), v.is))

  pub message-length : (free c : ℕ) (b : List ℕ) → length (message_bytes p free c b) ≡ whole_of p (length b)
  message-length free c b =
      simp (length-append, length-replicate, length-bytes) (omega (arith, k.sized.fields, behind-on p (p.size + length b)))

  -- a message, and behind it what goes with its packet
  pub message-put : (out left : List ℕ) (n ctr free : ℕ) {w : ℕ} {end one new : List ℕ} → n ≤ length left → Beyond (whole_of p n) (p.size + n) w
      → end ≡ sets out (w - last_of p) (replicate (last_of p) free) → one ≡ sets end 0 (head_bytes p free ctr n)
      → new ≡ sets one p.size (take n left ++ over p n left) → new ≡ sets out 0 (message_bytes p free ctr (take n left) ++ over p n left)
  message-put out left n ctr free {w} {end} {one} {new} h v z x y =
      let b : List ℕ = take n left in
      let o : List ℕ = over p n left in
      let msg : List ℕ = message_bytes p free ctr b in
      let e : length b ≡ n = length-take-le n left h in
      let alone : sets one p.size b ≡ sets out 0 msg = whole-put out b ctr free (rw e v) z (rw e x) refl in
      let behind : new ≡ sets (sets out 0 msg) (p.size + n) o =
      y ∙ sets-append b o one p.size ∙ rw alone (ap (λ i. sets (sets out 0 msg) (p.size + i) o) e) in
      by_test (eqb p.layout 4)
      (λ g. let f = eqb-true p.layout 4 g in
      let m : length msg ≡ p.size + n = message-length free ctr b ∙ rw e (untailed (omega arith) (p.size + n)) in
      behind ∙ sym (sets-append msg o out 0 ∙ rw (m, zero-add (p.size + n))))
      (λ g. behind ∙ rw (g, append-nil msg))

module _ {p : Plan} {out left : List ℕ} {n : ℕ} (h : Fitting p out left n) {w : ℕ} (v : Beyond (whole_of p n) (p.size + n) w) where
  pub tailing : Tailing p out w
  tailing =
      record {
        formed = h.formed;
        some = omega (arith, v.on, h.formed.sized.size-least);
        reached = reached h.formed n v;
        room = omega (arith, v.is, h.room);
      }

  pub heading : {one : List ℕ} → length one ≡ length out → Headed p one
  heading e =
      let z = h.formed.sized in
      record {
        len-narrow = z.len-narrow;
        ctr-narrow = z.ctr-narrow;
        inside = z.fields;
        free_most = h.formed.free_most;
        room = omega (arith, v.is, v.on, h.room);
      }

-- a message behind the rest before it, where the output from its place on was lent
pub one-put : {p : Plan} {out : List ℕ} {q from : ℕ} {left : List ℕ} {n : ℕ} → Passing p out q from left n
    → (free : ℕ) (msg : List ℕ) {one ys : List ℕ}
    → one ≡ sets out q (rest_bytes p free (from - q)) → ys ≡ sets (take (length one - from) (drop from one)) 0 msg
    → take from one ++ (ys ++ drop (length one - from) (drop from one)) ≡ sets out q (rest_bytes p free (from - q) ++ msg)
one-put {p} {out} {q} {from} h free msg {one} x y =
    let r : List ℕ = rest_bytes p free (from - q) in
    let e : q + length r ≡ from = omega (arith, h.on, rest-length h.skipping.resting.formed free (from - q)) in
    lent-rest one msg from y ∙ rw x (sym (sets-append r msg out q ∙ rw e))

pub ruleset rested = (rules, rest-none, rest_field, rest_free, rest-zeroed)

pub ruleset passed = (rules, skip_few, rest-few)

pub ruleset messages = (rules, head-put, tailing, heading, message-put, one-put)
