-- The bytes that the loop puts from the header's last byte on, with the header over it, are a frame; the lengths that it takes are those that fit.
use Prim.Native.Nat.{ℕ, suc, ◌+◌, ◌-◌, ◌<◌, ◌≤◌}
use native.Mathlib.Omega.{arith}
use native.Mathlib.Nat.{zero-add, sub-zero, mod-eq_of_lt, mod_self}
use mathlib.Core.Path.{◌≡◌, refl, sym, ap, ◌∙◌}
use mathlib.Core.Bool.{true, cond, or-true, or-false}
use mathlib.Core.List.{List, [], ◌∷◌, ◌++◌, append-nil, append_assoc}
use lib.ListN.{length, take, drop, replicate, length-append, length-drop, length-take}
use lib.Seq.{sets}
use lib.Dec.{eqb, ltb}
use borrow.Author.Tests.{ltb-true, lt-ltb}
use Rattle.layout.specs.Field.{values}
use Rattle.layout.specs.Multiple.{pad}
use Rattle.layout.proofs.FieldLaws.{length-puts}
use Rattle.packet.specs.declared.At.{At}
use Rattle.packet.specs.Counter.{next}
use Rattle.packet.specs.Packets.{sum, packets, first as first_of}
use Rattle.plan.specs.declared.Plan.{Plan}
use Rattle.plan.proofs.CaseLaws.{by_test}
use Rattle.store.proofs.OverLaws.{front_over}
use Rattle.flexray.specs.Setting.{H, fields, start}
use Rattle.flexray.specs.Writing.{evening, further, frame, spans_behind, spans, misfit as misfit_of}
use Rattle.flexray_plan.specs.Plan.{setting, further_of, Ready}
use Rattle.flexray_plan.proofs.PlanLaws.{further-sized}
use Rattle.sizing.specs.Places.{Formed, spot}
use Rattle.sizing.specs.Sizes.{misfit, misfit_at, reach, first}
use Rattle.sizing.proofs.ReachLaws.{Clear, clear_first, fit-limit, fit-frame}
use Rattle.writing.specs.declared.Begin.{Begin}
use Rattle.writing.specs.Bytes.{rest_bytes}
use Rattle.writing.specs.Puts.{bytes_from}
use Rattle.flexray_writer.specs.Writes.{head_bytes, Begun}

module _ {p : Plan} (k : Ready p) where
  abbrev f : Plan
  f = further_of p

  pub formed : Formed f
  formed =
      record {
        sized = further-sized k;
        longest-most = omega arith;
        layout-most = omega arith;
        free_most = omega arith;
        eights = λ l. absurd (omega arith);
        unaligned = λ e. absurd (omega arith);
      }

  -- where a packet starts, and ends
  spot-next : (a : At) (n : ℕ) → (spot f a n).next ≡ record { q = start p.align a.q + n; end = a.end }
  unfolding spot start
  spot-next a n = ap (λ (x : ℕ). record { q = x; end = a.end }) (omega arith)

  passed : (a : At) (n : ℕ) → (spot f a n).from - a.q ≡ start p.align a.q - 1 - a.q
  unfolding spot start
  passed a n = omega arith

  ---- Lengths --------------------------------------------------------------------------------------------------------------------

  misfit-is : (a : At) (n : ℕ) → misfit_of (setting p) (record { long = n; end = start p.align a.q + n }) ≡ misfit f a n
  unfolding misfit_of
  misfit-is a n =
      let e : ℕ = start p.align a.q + n in
      let past : ltb 255 n ≡ true → ltb p.datapacket e ≡ true =
      λ g. lt-ltb p.datapacket e (omega (arith, ltb-true 255 n g, k.ceiling-most)) in
      rw (spot-next a n) (by_test (ltb 255 n) (λ g. rw (g, past g, or-true (eqb n 0))) (λ g. rw (g, or-false)))

  index_behind : (a : At) (ns : List ℕ) → first_of (misfit_of (setting p)) (spans_behind p.align a.q ns) ≡ misfit_at f a ns
  unfolding first_of misfit_at spans_behind
  index_behind a [] = refl
  index_behind a (n ∷ ns) =
      let i = index_behind (spot f a n).next ns in
      rw (misfit-is a n) (ap (λ x. cond (misfit f a n) 0 (suc x)) (sym (rw (spot-next a n) (sym (rw (spot-next a n) at i)))))

  pub reach-inside : {a : At} → a.q ≤ p.datapacket → (ns : List ℕ) → Clear f a ns → (reach f a ns).q ≤ p.datapacket
  unfolding reach
  reach-inside h [] x = h
  reach-inside {a} h (n ∷ ns) x = let (y, w) = clear_first x in reach-inside {a = (spot f a n).next} (fit-frame formed y refl) ns w

  ---- All packets ----------------------------------------------------------------------------------------------------------------

  module _ (free : ℕ) where
    further-one : (a : At) (c : ℕ) (b : List ℕ) → length b < 256 → (bs : List (List ℕ)) (v : List ℕ)
        → further (setting p) free (spot f a (length b)).next.q bs ≡ bytes_from f free (spot f a (length b)).next c bs ++ v
        → further (setting p) free a.q (b ∷ bs) ≡ bytes_from f free a c (b ∷ bs) ++ v
    unfolding further bytes_from rest_bytes next
    further-one a c b h bs v on =
        let n : ℕ = length b in
        let r : List ℕ = replicate (start p.align a.q - 1 - a.q) free in
        let o : List ℕ = bytes_from f free (spot f a n).next c bs in
        let q : (spot f a n).next.q ≡ start p.align a.q + n = ap (λ x. x.q) (spot-next a n) in
        let z : 1 + n - (1 + n) ≡ 0 = omega arith in
        rw (← q, on, passed a n, mod-eq_of_lt h, z, append-nil b) (sym (append_assoc r (n ∷ (b ++ o)) v ∙ rw (append_assoc b o v)))

    further-none : (a : At) (c : ℕ) → further (setting p) free a.q [] ≡ bytes_from f free a c [] ++ evening (setting p) free a.q
    unfolding further bytes_from
    further-none a c = refl

    -- the frame behind a place is the packets, and the byte that evens it
    pub further-is : {a : At} (c : ℕ) (ns bs : List ℕ) → sum ns ≡ length bs → Clear f a ns
        → further (setting p) free a.q (packets ns bs) ≡ bytes_from f free a c (packets ns bs) ++ evening (setting p) free (reach f a ns).q
    unfolding packets reach
    further-is {a} c [] bs e x = further-none a c
    further-is {a} c (n ∷ ns) bs e x =
        let z : length (take n bs) ≡ n = rw length-take (omega arith) in
        let d : sum ns ≡ length (drop n bs) = rw length-drop (omega arith) in
        let (y, w) = clear_first x in
        further-one a c (take n bs) (omega (arith, fit-limit formed y)) (packets ns (drop n bs))
        (evening (setting p) free (reach f (spot f a n).next ns).q) (rw z (further-is {a = (spot f a n).next} c ns (drop n bs) d w))

---- From the header's last byte on -----------------------------------------------------------------------------------------------

module _ {p : Plan} {b : Begin} (t : Begun p b) where
  k : Ready p
  k = t.ready

  -- the first packet starts behind the header
  first-start : start p.align b.q ≡ p.size
  unfolding start pad
  first-start = rw (t.last, k.whole, sub-zero, mod_self p.align) (omega arith)

  spans_are : (ns : List ℕ) → spans (setting p) ns ≡ spans_behind p.align b.q ns
  unfolding spans spans_behind
  spans_are [] = refl
  spans_are (n ∷ ns) = rw (first-start, k.size)

  pub index_is : (ns : List ℕ) → first_of (misfit_of (setting p)) (spans (setting p) ns) ≡ misfit_at (further_of p) (first b.q) ns
  index_is ns = ap (first_of (misfit_of (setting p))) (spans_are ns) ∙ index_behind k (first b.q) ns

  module _ (x : List ℕ) (xs : List (List ℕ)) where
    abbrev header : List ℕ
    header = head_bytes (setting p) b.free b.ctr (length x)

    abbrev rest : List ℕ
    rest = x ++ further (setting p) b.free (H (setting p) + length x) xs

    further-first : further (setting p) b.free b.q (x ∷ xs) ≡ length x ∷ rest
    unfolding further
    further-first = let z : p.size - 1 - b.q ≡ 0 = omega (arith, t.last) in rw (first-start, z, k.size)

    header-long : length header ≡ b.q + 1
    header-long = length-puts (values p.node (length x) b.ctr) b.free (fields (setting p)) ∙ sym (t.last ∙ k.size)

    pub frame-long : length (frame (setting p) b.free b.ctr (x ∷ xs)) ≡ b.q + length (further (setting p) b.free b.q (x ∷ xs))
    unfolding frame
    frame-long = rw further-first (omega (arith, length-append header rest, header-long))

    pub frame_past : p.size ≤ length (frame (setting p) b.free b.ctr (x ∷ xs))
    unfolding frame
    frame_past = omega (arith, length-append header rest, header-long, t.last)

    -- the header goes over what stands for the first packet's LEN
    pub frame-over : (out : List ℕ) → sets (sets out b.q (further (setting p) b.free b.q (x ∷ xs))) 0 header
        ≡ sets out 0 (frame (setting p) b.free b.ctr (x ∷ xs))
    unfolding frame
    frame-over out =
        let e : length header - b.q ≡ 1 = omega (arith, header-long) in
        let o = front_over header (length x ∷ rest) out 0 b.q (omega (arith, header-long)) in
        rw further-first (rw (zero-add, e) at o)
