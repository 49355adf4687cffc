-- Packets that fit are written as a frame of those packets. The byte that evens it is zero where it stands on the next LEN place;
-- where it does not, that place is outside.
use Prim.Native.Nat.{ℕ, ◌+◌, ◌-◌, ◌%◌, ◌<◌, ◌≤◌}
use native.Mathlib.Omega.{arith}
use mathlib.Core.Path.{◌≡◌, refl, sym, ◌∙◌}
use mathlib.Core.Bool.{Bool, true, false, cond}
use mathlib.Core.List.{List, [], ◌∷◌, ◌++◌, append-nil, map}
use lib.ListN.{length, replicate, length-append, length-replicate}
use lib.Dec.{eqb}
use borrow.Author.Tests.{eqb-true, eqb-false, eq-eqb, ne_eqb}
use Rattle.layout.specs.Field.{Name, is, width, says, values, puts, Name.NAX, Name.LEN, Name.FILL}
use Rattle.layout.proofs.FieldLaws.{says-puts, length-puts}
use Rattle.packet.specs.Message.{Msg}
use Rattle.packet.specs.Counter.{holds}
use Rattle.packet.proofs.CounterLaws.{said-counter}
use Rattle.packet.proofs.PacketsLaws.{Each}
use Rattle.flexray.specs.declared.Setting.{Setting}
use Rattle.flexray.specs.Setting.{fields, H, L, W, start, sound}
use Rattle.flexray.specs.Layout.{First, Further, Laid, Closed, Frame}
use Rattle.flexray.specs.Layout.{Further.here, Further.next, Laid.frame as laid, Closed.outside, Closed.zeroed}
use Rattle.flexray.specs.Writing.{byte_after, evening, further, frame, placed_behind, placed, shown, spans_behind, spans}
use Rattle.flexray.specs.Refusal.{Fit}
use Rattle.flexray.proofs.AlignLaws.{start-behind}
use Rattle.flexray.proofs.FurtherLaws.{further-on}
use Rattle.flexray.proofs.WayLaws.{says-head}
use Rattle.flexray.proofs.SettingLaws.{Good, good}

---- The evening byte -----------------------------------------------------------------------------------------------------------

module _ (s : Setting) (fill : ℕ) where
  pub evening-length : (e : ℕ) → length (evening s fill e) ≡ e % 2
  unfolding evening
  evening-length e = at (eqb (e % 2) 0) refl
    where
      at : (b : Bool) → eqb (e % 2) 0 ≡ b → length (cond b [] (byte_after s fill e ∷ [])) ≡ e % 2
      at true g = sym (eqb-true (e % 2) 0 g)
      at false g = omega (arith, eqb-false (e % 2) 0 g)

  -- on the next LEN place it is zero
  zero_there : (e : ℕ) → 0 < L s → start s.align e ≡ e + 1 → byte_after s fill e ≡ 0
  zero_there e l h = rw (ne_eqb (L s) 0 (omega arith), eq-eqb (start s.align e) (e + 1) h)

  -- so that with LEN it closes the frame
  evening-closed : (e : ℕ) → 0 < L s → Closed s.align e (evening s fill e)
  unfolding evening
  evening-closed e l = at (eqb (e % 2) 0) (eqb (start s.align e) (e + 1)) refl
    where
      at : (a b : Bool) → eqb (start s.align e) (e + 1) ≡ b → Closed s.align e (cond a [] (byte_after s fill e ∷ []))
      at true b g = outside [] (omega (arith, start-behind s.align e))
      at false true g =
          let h : start s.align e ≡ e + 1 = eqb-true (start s.align e) (e + 1) g in
          rw (zero_there e l h) (zeroed [] [] (omega arith))
      at false false g =
          outside (byte_after s fill e ∷ []) (omega (arith, start-behind s.align e, eqb-false (start s.align e) (e + 1) g))

  -- without LEN it is the fill byte
  pub evening_fill : (e : ℕ) → L s ≡ 0 → evening s fill e ≡ replicate (e % 2) fill
  unfolding evening
  evening_fill e l = rw (eq-eqb (L s) 0 l) (at (eqb (e % 2) 0) refl)
    where
      at : (b : Bool) → eqb (e % 2) 0 ≡ b → cond b [] (fill ∷ []) ≡ replicate (e % 2) fill
      at true g = rw (eqb-true (e % 2) 0 g)
      at false g = let o : e % 2 ≡ 1 = omega (arith, eqb-false (e % 2) 0 g) in rw o

---- Further packets ------------------------------------------------------------------------------------------------------------

-- where the last packet ends
abbrev pub end_of : ℕ → ℕ → List (List ℕ) → ℕ
end_of a e [] = e
end_of a e (b ∷ bs) = end_of a (start a e + length b) bs

module _ (s : Setting) (fill : ℕ) where
  abbrev A : ℕ
  A = s.align

  abbrev FitsBehind : ℕ → List (List ℕ) → Type 0
  FitsBehind e bs = Each (Fit s) (spans_behind A e (map length bs))

  written_further : (e : ℕ) (bs : List (List ℕ)) → FitsBehind e bs
      → Further A (end_of A e bs) (evening s fill (end_of A e bs)) e (placed_behind A e bs) (further s fill e bs)
  unfolding further placed_behind spans_behind
  written_further e [] f = here
  written_further e (b ∷ bs) f =
      let m : e < start A e = start-behind A e in
      let n : ℕ = start A e - 1 - e in
      let l : e + length (replicate n fill) + 1 ≡ start A e = rw (length-replicate n fill) (omega arith) in
      next (replicate n fill) b l f.0.least (written_further (start A e + length b) bs f.1)

  end-most : (e : ℕ) (bs : List (List ℕ)) → e ≤ s.ceiling → FitsBehind e bs → end_of A e bs ≤ s.ceiling
  unfolding spans_behind
  end-most e [] h f = h
  end-most e (b ∷ bs) h f = end-most (start A e + length b) bs f.0.most f.1

further-length : {a e : ℕ} {cs : List ℕ} {q : ℕ} {bs : List ℕ} {ms : List Msg} → Further a e cs q ms bs → q + length bs ≡ e + length cs
further-length here = refl
further-length (next f b {bs = bs} l z k) = simp length-append (omega (arith, further-length k))

-- packets of such lengths fit the frame
abbrev pub Fits : Setting → List ℕ → Type 0
Fits s ns = Each (Fit s) (spans s ns)

-- a frame is as long as its last packet's end, made even
pub frame-length : (s : Setting) (fill c : ℕ) (b : List ℕ) (bs : List (List ℕ)) → Fits s (length b ∷ map length bs)
    → length (frame s fill c (b ∷ bs)) ≡ end_of s.align (H s + length b) bs + end_of s.align (H s + length b) bs % 2
unfolding frame spans
frame-length s fill c b bs f =
    let e : ℕ = end_of s.align (H s + length b) bs in
    let k = further-length (written_further s fill (H s + length b) bs f.1) in
    simp (length-append, length-puts) (omega (arith, evening-length s fill e))

---- The frame ------------------------------------------------------------------------------------------------------------------

module _ (s : Setting) (ok : sound s ≡ true) (fill c : ℕ) (v : holds (W s) c ≡ true) where
  abbrev head : ℕ → List ℕ
  head n = puts (values s.node n c) fill (fields s)

  head-length : (n : ℕ) → length (head n) ≡ H s
  head-length n = length-puts (values s.node n c) fill (fields s)

  -- a field of one byte says what was written
  says-one : (k : Name) (n : ℕ) → is k FILL ≡ false → width k (fields s) ≡ 1 → values s.node n c k < 256
      → says k (fields s) (head n) 0 ≡ values s.node n c k
  says-one k n f w h = says-puts (values s.node n c) fill k f (fields s) (omega arith) (rw w h)

  -- the packet b as a frame's first
  abbrev front : List ℕ → Msg
  front b = record { at = H s; packet = b; ctr = cond (eqb (W s) 0) 0 c }

  -- a header for n bytes, the packet b that a reader sees, and what is behind it
  framed : (n : ℕ) (b : List ℕ) {e : ℕ} {cs bs : List ℕ} {ms : List Msg} → First s (head n) b bs
      → Further s.align e cs (H s + length b) ms bs → Closed s.align e cs
      → (e + length cs) % 2 ≡ 0 → e + length cs ≤ s.ceiling → Frame s (front b ∷ ms) (head n ++ (b ++ bs))
  framed n b {e} {cs} {bs} {ms} r k d even most =
      let g : Good s = good s ok in
      let t : List ℕ = head n ++ (b ++ bs) in
      let l : length t ≡ e + length cs = simp length-append (omega (arith, further-length k, r.header)) in
      let x : says NAX (fields s) t 0 ≡ s.node =
      says-head s t NAX (head n) (b ++ bs) r.header refl ∙ says-one NAX n refl g.naxwidth g.node in
      let o : Laid s e cs (front b ∷ ms) t = rw (← said-counter s.node n c fill (fields s) v) (laid (head n) b r k) in
      record {
        setting = ok;
        sized = record { evened = record { even = rw l even; most = omega arith }; least = omega (arith, r.some, further-on k); nax = x };
        end = e;
        left = cs;
        laid = o;
        closed = d;
      }

  abbrev pub Written : List (List ℕ) → Type 0
  Written bs = Frame s (placed s fill c bs) (frame s fill c bs)

  with_len : (b : List ℕ) (bs : List (List ℕ)) → 0 < L s → Fits s (length b ∷ map length bs) → Written (b ∷ bs)
  unfolding spans placed frame
  with_len b bs l f =
      let g : Good s = good s ok in
      let e : ℕ = end_of s.align (H s + length b) bs in
      let m : e ≤ s.ceiling = end-most s fill (H s + length b) bs f.0.most f.1 in
      let w : L s ≡ 1 = omega (arith, g.lens) in
      let p : shown s fill b ≡ b = rw (ne_eqb (L s) 0 (omega arith)) (append-nil b) in
      let r : First s (head (length b)) b (further s fill (H s + length b) bs) =
      record {
        header = head-length (length b);
        some = f.0.least;
        all = λ z. absurd (omega arith);
        len = λ z. says-one LEN (length b) refl w (omega (arith, f.0.most, g.most));
      } in
      let n : length (evening s fill e) ≡ e % 2 = evening-length s fill e in
      let k = written_further s fill (H s + length b) bs f.1 in
      rw p (framed (length b) b r k (evening-closed s fill e l) (rw n (omega arith)) (omega (arith, g.even)))

  without_len : (b : List ℕ) (bs : List (List ℕ)) → L s ≡ 0 → length bs ≡ 0 → Fits s (length b ∷ map length bs) → Written (b ∷ bs)
  unfolding spans placed frame placed_behind further
  without_len b (d ∷ bs) l o f = absurd (omega arith)
  without_len b [] l o f =
      let g : Good s = good s ok in
      let w : List ℕ = evening s fill (H s + length b) in
      let n : length (b ++ w) ≡ length b + (H s + length b) % 2 = rw (length-append, evening-length s fill (H s + length b)) in
      let p : shown s fill b ≡ b ++ w = rw (eq-eqb (L s) 0 l) in
      let r : First s (head (length b)) (b ++ w) [] =
      record {
        header = head-length (length b);
        some = omega (arith, f.0.least);
        all = λ z. refl;
        len = λ z. absurd (omega arith);
      } in
      let d : Closed s.align (H s + length (b ++ w)) [] = outside [] (omega (arith, start-behind s.align (H s + length (b ++ w)))) in
      rw p (rw (append-nil (b ++ w)) at (framed (length b) (b ++ w) r here d (rw n (omega arith)) (omega (arith, f.0.most, g.even))))

  -- packets that fit, of which there are some, and one without LEN
  pub written : (bs : List (List ℕ)) → 0 < length bs → (L s ≡ 0 → length bs ≡ 1) → Fits s (map length bs) → Written bs
  written [] z o f = absurd (omega arith)
  written (b ∷ bs) z o f = at (eqb (L s) 0) refl
    where
      at : (x : Bool) → eqb (L s) 0 ≡ x → Written (b ∷ bs)
      at true g = let l : L s ≡ 0 = eqb-true (L s) 0 g in without_len b bs l (omega (arith, o l)) f
      at false g = with_len b bs (omega (arith, eqb-false (L s) 0 g)) f

---- The least length -----------------------------------------------------------------------------------------------------------

-- where the last of these packets ends
abbrev end_by : ℕ → List Msg → ℕ
end_by e [] = e
end_by e (m ∷ ms) = end_by (m.at + length m.packet) ms

further-end : {a e : ℕ} {cs : List ℕ} {q : ℕ} {bs : List ℕ} {ms : List Msg} → Further a e cs q ms bs → e ≡ end_by q ms
further-end here = refl
further-end (next f b l z k) = further-end k

laid_end : {s : Setting} {e : ℕ} {cs t : List ℕ} {ms : List Msg} → Laid s e cs ms t → (e ≡ end_by 0 ms) × (length t ≡ e + length cs)
laid_end (laid h b r k) = (further-end k, simp length-append (omega (arith, further-length k, r.header)))

behind-end : (a e : ℕ) (bs : List (List ℕ)) → end_by e (placed_behind a e bs) ≡ end_of a e bs
unfolding placed_behind
behind-end a e [] = refl
behind-end a e (b ∷ bs) = behind-end a (start a e + length b) bs

-- no frame of these packets is shorter than the one that is written
pub frame-least : (s : Setting) (fill c : ℕ) (b : List ℕ) (bs : List (List ℕ)) (t : List ℕ) → Fits s (length b ∷ map length bs)
    → (L s ≡ 0 → bs ≡ []) → Frame s (placed s fill c (b ∷ bs)) t → length (frame s fill c (b ∷ bs)) ≤ length t
unfolding placed placed_behind
frame-least s fill c b bs t fits alone f = at (eqb (L s) 0) refl
  where
    e : ℕ
    e = end_of s.align (H s + length b) bs

    w : List ℕ
    w = evening s fill (H s + length b)

    at : (x : Bool) → eqb (L s) 0 ≡ x → length (frame s fill c (b ∷ bs)) ≤ length t
    at true g =
        let (i, j) = laid_end f.laid in
        let n : length (b ++ w) ≡ length b + (H s + length b) % 2 = rw (length-append, evening-length s fill (H s + length b)) in
        let p : shown s fill b ≡ b ++ w = rw g in
        let q : bs ≡ [] = alone (eqb-true (L s) 0 g) in
        let k : f.end ≡ H s + length (b ++ w) = rw (p, q) at i in
        let m : e ≡ H s + length b = rw q in
        omega (arith, frame-length s fill c b bs fits)
    at false g =
        let (i, j) = laid_end f.laid in
        let p : shown s fill b ≡ b = rw g (append-nil b) in
        let k : f.end ≡ e = (rw p at i) ∙ behind-end s.align (H s + length b) bs in
        omega (arith, frame-length s fill c b bs fits, f.sized.evened.even)

-- the same of any list that the writer takes
pub frame_shortest : (s : Setting) (fill c : ℕ) (bs : List (List ℕ)) (t : List ℕ) → 0 < length bs → (L s ≡ 0 → length bs ≡ 1)
    → Fits s (map length bs) → Frame s (placed s fill c bs) t → length (frame s fill c bs) ≤ length t
frame_shortest s fill c [] t z o fits f = absurd (omega arith)
frame_shortest s fill c (b ∷ []) t z o fits f = frame-least s fill c b [] t fits (λ l. refl) f
frame_shortest s fill c (b ∷ d ∷ bs) t z o fits f = frame-least s fill c b (d ∷ bs) t fits (λ l. absurd (omega (arith, o l))) f
