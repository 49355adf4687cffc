-- What is written is laid out as the packets that were given, with their counters: each message stands where the layout permits one.
use Prim.Native.Nat.{ℕ, zero, suc, ◌+◌, ◌-◌, ◌/◌, ◌%◌, ◌<◌, ◌≤◌}
use native.Mathlib.Omega.{arith}
use native.Mathlib.Nat.{add-zero, mul-mod_left}
use mathlib.Core.Path.{◌≡◌, refl, ap, ◌∙◌}
use mathlib.Core.Bool.{Bool, true, false, cond, ◌&&◌, ◌||◌}
use mathlib.Core.List.{List, [], ◌∷◌, ◌++◌, append-nil, append_assoc, map}
use lib.ListN.{length, get_or, replicate, length-append, length-replicate}
use lib.Dec.{leb, ltb, eqb}
use borrow.Author.Tests.{ltb-true, ltb-false, leb-true, eqb-true, eqb-false, lt-ltb, eq-eqb, ne_eqb}
use Rattle.layout.specs.Field.{width, says, values, puts, Name.LEN, Name.CTR}
use Rattle.layout.specs.Multiple.{pad}
use Rattle.layout.proofs.FieldLaws.{inside, number-bytes, length-bytes, length-puts, says-puts}
use Rattle.layout.proofs.MultipleLaws.{pad_less, pad-whole}
use Rattle.layout.proofs.TestLaws.{and_right, or_right}
use Rattle.packet.specs.Message.{Msg}
use Rattle.packet.specs.Counter.{holds, next, later}
use Rattle.packet.proofs.CounterLaws.{said-counter, next-holds}
use Rattle.packet.proofs.PacketsLaws.{Each}
use Rattle.usb.specs.declared.Setting.{Setting}
use Rattle.usb.specs.Setting.{fields, H, W, whole}
use Rattle.usb.specs.Layout.{Message, Reaches, Rest, Laid}
use Rattle.usb.specs.Writing.{zero_bytes, rest_bytes, message_bytes, permits, skipped, write, placed}
use Rattle.usb.specs.Refusal.{Fit}
use Rattle.usb.proofs.SettingLaws.{Good, into, cut_at}

-- a message with a packet of n bytes may stand at q
record Allowed (s : Setting) (q n : ℕ) : Type 0 where
  uncut : q % s.datapacket + H s ≤ s.datapacket
  within : s.packing < 2 → q % s.datapacket + whole s n ≤ s.datapacket
  first : s.packing ≡ 0 → q % s.datapacket ≡ 0

module _ (s : Setting) (g : Good s) (fill : ℕ) where
  -- it may at the start of a data packet
  starts : (q n : ℕ) → Fit s n → q % s.datapacket ≡ 0 → Allowed s q n
  starts q n k z = record { uncut = omega (arith, g.cut, g.small); within = λ w. omega (arith, k.within w); first = λ w. z }

  -- where it is permitted it may stand
  allowed : (q n : ℕ) → Fit s n → permits s q n ≡ true → Allowed s q n
  unfolding permits
  allowed q n k = at (eqb s.packing 0) (eqb s.packing 1) refl refl
    where
      at : (a b : Bool) → eqb s.packing 0 ≡ a → eqb s.packing 1 ≡ b
          → cond a (eqb (q % s.datapacket) 0) (leb (q % s.datapacket + cond b (whole s n) (H s)) s.datapacket) ≡ true → Allowed s q n
      at true b ga gb e = starts q n k (eqb-true (q % s.datapacket) 0 e)
      at false true ga gb e =
          let h : q % s.datapacket + whole s n ≤ s.datapacket = leb-true (q % s.datapacket + whole s n) s.datapacket e in
          record { uncut = omega arith; within = λ z. h; first = λ z. absurd (eqb-false s.packing 0 ga z) }
      at false false ga gb e =
          record {
            uncut = leb-true (q % s.datapacket + H s) s.datapacket e;
            within = λ z. absurd (omega (arith, eqb-false s.packing 0 ga, eqb-false s.packing 1 gb));
            first = λ z. absurd (eqb-false s.packing 0 ga z);
          }

  ---- Rests ----------------------------------------------------------------------------------------------------------------------

  pub rest-length : (n : ℕ) → length (rest_bytes s fill n) ≡ n
  unfolding rest_bytes
  rest-length n = at (eqb s.packing 0 || ltb n (H s)) refl
    where
      at : (b : Bool) → eqb s.packing 0 || ltb n (H s) ≡ b
          → length (cond b (replicate n fill) (zero_bytes s fill n)) ≡ n
      at true e = length-replicate n fill
      at false e =
          let h : H s ≤ n = ltb-false n (H s) (or_right (eqb s.packing 0) (ltb n (H s)) e) in
          simp (length-append, length-replicate, length-bytes) (omega (arith, inside LEN (fields s)))

  pub rest-none : rest_bytes s fill 0 ≡ []
  unfolding rest_bytes
  rest-none = at (eqb s.packing 0)
    where
      at : (a : Bool) → cond (a || ltb 0 (H s)) [] (zero_bytes s fill 0) ≡ []
      at true = refl
      at false = rw (lt-ltb 0 (H s) g.head)

  rest_ok : (q n : ℕ) → (s.packing ≡ 0 → 0 < q % s.datapacket) → Rest s q (rest_bytes s fill n)
  unfolding rest_bytes
  rest_ok q n f = at (eqb s.packing 0) (ltb n (H s)) refl refl
    where
      at : (a b : Bool) → eqb s.packing 0 ≡ a → ltb n (H s) ≡ b
          → Rest s q (cond (a || b) (replicate n fill) (zero_bytes s fill n))
      at true b ga gb = Rest.any (eqb-true s.packing 0 ga) (f (eqb-true s.packing 0 ga))
      at false true ga gb = Rest.few (omega (arith, eqb-false s.packing 0 ga)) (rw length-replicate (ltb-true n (H s) gb))
      at false false ga gb =
          let h : H s ≤ n = ltb-false n (H s) gb in
          Rest.zeroed (omega (arith, eqb-false s.packing 0 ga))
          (simp (length-append, length-replicate, length-bytes) (omega (arith, inside LEN (fields s))))
          (rw g.first (number-bytes (width LEN (fields s)) 0 (replicate (n - width LEN (fields s)) fill) (omega arith)))

  -- the rest of the data packet at q, and what is laid out behind it
  skip : (q : ℕ) {p : ℕ} {cs : List ℕ} {ms : List Msg} {bs : List ℕ} → (s.packing ≡ 0 → 0 < q % s.datapacket)
      → Laid s p cs (q + (s.datapacket - q % s.datapacket)) ms bs
      → Laid s p cs q ms (rest_bytes s fill (s.datapacket - q % s.datapacket) ++ bs)
  skip q {ms = ms} {bs = bs} f l =
      let a : ℕ = s.datapacket - q % s.datapacket in
      let n : length (rest_bytes s fill a) ≡ a = rest-length a in
      let z : Reaches s q (rest_bytes s fill a) bs = record { some = omega (arith, into g q); full = omega arith } in
      Laid.rest (rest_bytes s fill a) {bs = bs} {ms = ms} (rest_ok q a f) z (rw n l)

  ---- Messages -------------------------------------------------------------------------------------------------------------------

  pub message-length : (c : ℕ) (b : List ℕ) → length (message_bytes s fill c b) ≡ whole s (length b)
  message-length c b = simp (length-append, length-replicate, length-puts) (omega arith)

  message-ok : (q c : ℕ) (b : List ℕ) → Fit s (length b) → Allowed s q (length b)
      → Message s q (puts (values 0 (length b) c) fill (fields s)) b (replicate (pad s.align (H s + length b)) fill)
  message-ok q c b k u =
      let lh : length (puts (values 0 (length b) c) fill (fields s)) ≡ H s = length-puts (values 0 (length b) c) fill (fields s) in
      let le : length (replicate (pad s.align (H s + length b)) fill) ≡ pad s.align (H s + length b) =
      length-replicate (pad s.align (H s + length b)) fill in
      record {
        header = lh;
        len = says-puts (values 0 (length b) c) fill LEN refl (fields s) g.lens (omega (arith, k.most, g.most));
        least = k.least;
        most = k.most;
        short = omega (arith, pad_less s.align (H s + length b) g.align);
        whole = rw (lh, le) (pad-whole s.align (H s + length b) g.align);
        uncut = omega (arith, u.uncut);
        within = λ z. omega (arith, u.within (omega arith));
        first = u.first;
      }

  lay_message : (q c : ℕ) (b : List ℕ) {p : ℕ} {cs : List ℕ} {ms : List Msg} {bs : List ℕ} → Fit s (length b) → holds (W s) c ≡ true
      → Allowed s q (length b) → Laid s p cs (q + whole s (length b)) ms bs
      → Laid s p cs q (record { at = q + H s; packet = b; ctr = cond (eqb (W s) 0) 0 c } ∷ ms) (message_bytes s fill c b ++ bs)
  lay_message q c b {p} {cs} {ms} {bs} k v u l =
      let h : List ℕ = puts (values 0 (length b) c) fill (fields s) in
      let e : List ℕ = replicate (pad s.align (H s + length b)) fill in
      let lh : length h ≡ H s = length-puts (values 0 (length b) c) fill (fields s) in
      let le : length e ≡ pad s.align (H s + length b) = length-replicate (pad s.align (H s + length b)) fill in
      let i : ◌≡◌ {A = Msg} (record { at = q + length h; packet = b; ctr = says CTR (fields s) h 0 })
      (record { at = q + H s; packet = b; ctr = cond (eqb (W s) 0) 0 c }) =
      rw (lh, said-counter 0 (length b) c fill (fields s) v) in
      simp append_assoc (rw (← i) (Laid.message {q = q} h b e {bs = bs} {ms = ms} (message-ok q c b k u) (rw (lh, le) l)))

  ---- The whole list -------------------------------------------------------------------------------------------------------------

  not_first : (q n : ℕ) → permits s q n ≡ false → s.packing ≡ 0 → 0 < q % s.datapacket
  unfolding permits
  not_first q n e z =
      let f : eqb (q % s.datapacket) 0 ≡ false = rw (eq-eqb s.packing 0 z) at e in
      omega (arith, eqb-false (q % s.datapacket) 0 f)

  next-packet : (q : ℕ) → (q + (s.datapacket - q % s.datapacket)) % s.datapacket ≡ 0
  next-packet q = rw (cut_at g q) (mul-mod_left (suc (q / s.datapacket)) s.datapacket)

  -- one message, with the rest before it
  one : (q c : ℕ) (b : List ℕ) {p : ℕ} {cs : List ℕ} {ms : List Msg} {bs : List ℕ} → Fit s (length b) → holds (W s) c ≡ true
      → Laid s p cs (q + skipped s q (length b) + whole s (length b)) ms bs
      → Laid s p cs q (record { at = q + skipped s q (length b) + H s; packet = b; ctr = cond (eqb (W s) 0) 0 c } ∷ ms)
      (rest_bytes s fill (skipped s q (length b)) ++ (message_bytes s fill c b ++ bs))
  unfolding skipped
  one q c b {p} {cs} {ms} {bs} k v = at (permits s q (length b)) refl
    where
      at : (x : Bool) → permits s q (length b) ≡ x
          → Laid s p cs (q + cond x 0 (s.datapacket - q % s.datapacket) + whole s (length b)) ms bs
          → Laid s p cs q
          (record { at = q + cond x 0 (s.datapacket - q % s.datapacket) + H s; packet = b; ctr = cond (eqb (W s) 0) 0 c } ∷ ms)
          (rest_bytes s fill (cond x 0 (s.datapacket - q % s.datapacket)) ++ (message_bytes s fill c b ++ bs))
      at true e l = rw (rest-none, add-zero q) (lay_message q c b k v (allowed q (length b) k e) (rw (add-zero q) at l))
      at false e l =
          let j : ℕ = q + (s.datapacket - q % s.datapacket) in
          skip q (not_first q (length b) e) (lay_message j c b k v (starts j (length b) k (next-packet q)) l)

  -- behind a message the rest of the list is written from where the message ends
  pub write-length : (full : Bool) (q c : ℕ) (b : List ℕ) (bs : List (List ℕ))
      → q + length (write s fill full q c (b ∷ bs))
      ≡ q + skipped s q (length b) + whole s (length b)
      + length (write s fill full (q + skipped s q (length b) + whole s (length b)) (next (W s) c) bs)
  unfolding write
  write-length full q c b bs =
      let w : List ℕ = write s fill full (q + skipped s q (length b) + whole s (length b)) (next (W s) c) bs in
      rw (length-append, length-append (message_bytes s fill c b) w, rest-length, message-length c b) (omega arith)

  -- the list from place q on, up to where the transfer ends
  pub laid_out : (full : Bool) (q c p : ℕ) (bs : List (List ℕ)) → Each (λ b. Fit s (length b)) bs → holds (W s) c ≡ true
      → p ≡ q + length (write s fill full q c bs) → Laid s p [] q (placed s q c bs) (write s fill full q c bs)
  unfolding write placed
  laid_out full q c p [] k v d = at (full && ltb 0 (q % s.datapacket)) refl d
    where
      a : ℕ
      a = s.datapacket - q % s.datapacket

      at : (b : Bool) → full && ltb 0 (q % s.datapacket) ≡ b → p ≡ q + length (cond b (rest_bytes s fill a) [])
          → Laid s p [] q [] (cond b (rest_bytes s fill a) [])
      at true e d =
          let o : 0 < q % s.datapacket = ltb-true 0 (q % s.datapacket) (and_right full (ltb 0 (q % s.datapacket)) e) in
          let j : q + a ≡ p = omega (arith, rest-length a) in
          rw (← append-nil (rest_bytes s fill a)) (skip q (λ z. o) (rw j Laid.here))
      at false e d = let j : q ≡ p = omega arith in rw j Laid.here
  laid_out full q c p (b ∷ bs) k v d =
      let i : ℕ = q + skipped s q (length b) + whole s (length b) in
      one q c b k.0 v (laid_out full i (next (W s) c) p bs k.1 (next-holds (W s) c v) (d ∙ write-length full q c b bs))

  -- and its packets are those that were given
  pub placed-packets : (q c : ℕ) (bs : List (List ℕ)) → map (λ m. m.packet) (placed s q c bs) ≡ bs
  unfolding placed
  placed-packets q c [] = refl
  placed-packets q c (b ∷ bs) = ap (λ l. b ∷ l) (placed-packets (q + skipped s q (length b) + whole s (length b)) (next (W s) c) bs)

  -- with their counters, one after another from the first
  pub placed-counter : (d : Msg) (q c : ℕ) (bs : List (List ℕ)) (i : ℕ) → 0 < W s → i < length bs
      → (get_or (placed s q c bs) i d).ctr ≡ later (W s) i c
  unfolding placed later
  placed-counter d q c [] i w l = absurd (omega arith)
  placed-counter d q c (b ∷ bs) zero w l = rw (ne_eqb (W s) 0 (omega arith))
  placed-counter d q c (b ∷ bs) (suc i) w l =
      placed-counter d (q + skipped s q (length b) + whole s (length b)) (next (W s) c) bs i w (omega arith)
