-- The one law of USB about the step: it tells what the definition says is ahead. Single packing passes the rest behind a message with it.
use Prim.Native.Nat.{ℕ, ◌+◌, ◌-◌, ◌%◌, ◌<◌, ◌≤◌, min}
use native.Mathlib.Omega.{arith}
use native.Mathlib.Nat.{zero-add, zero-mod, add-mod, mod-mod, add-mod_right, mod-mod_of_dvd, dvd_of_mod-eq-zero}
use mathlib.Core.Path.{◌≡◌, refl, sym, ap, ◌∙◌}
use mathlib.Core.Logic.{inl, inr}
use mathlib.Core.Bool.{false}
use mathlib.Core.List.{List, [], ◌∷◌}
use lib.ListN.{length}
use lib.Dec.{ltb}
use borrow.Author.Tests.{lt-ltb, le-ltb, le-leb, lt-leb, ne_eqb}
use Rattle.layout.specs.Field.{number_at, place, says, Name.LEN, Name.CTR}
use Rattle.layout.specs.Multiple.{pad, Aligned}
use Rattle.layout.specs.Walk.{after, before, Out.list, Out.refused}
use Rattle.layout.proofs.MultipleLaws.{pad-whole, aligned_power}
use Rattle.layout.proofs.WalkLaws.{walk_eq}
use Rattle.packet.specs.declared.At.{At}
use Rattle.packet.specs.Seen.{Seen, Seen as S}
use Rattle.packet.specs.Seen.{message, as_step}
use Rattle.plan.specs.declared.Plan.{Plan}
use Rattle.plan.specs.Place.{streamed_at, packet_after}
use Rattle.plan.proofs.CaseLaws.{by_test, by_less}
use Rattle.plan.proofs.PlaceLaws.{end_starts, in_packet, streamed_is, on-by}
use Rattle.usb.specs.Reading.{Verdict, Verdict.TakeRest}
use Rattle.usb.specs.Setting.{fields, H, whole}
use Rattle.usb.specs.Reading.{space, len_at, room, answer, seen, step, ahead}
use Rattle.usb.proofs.SettingLaws.{good}
use Rattle.usb.proofs.StepLaws.{Open, Judged, decided}
use Rattle.usb.proofs.LaidLaws.{forward}
use Rattle.usb_plan.specs.Plan.{setting, Ready}
use Rattle.usb_plan.proofs.PlanLaws.{tailed}
use Rattle.reading.specs.Loops.{Standing}
use Rattle.reading.specs.Reads.{Tells}
use Rattle.reading.specs.Step.{past_at, head, len, next, limit, there, next_at, Says}
use Rattle.reading.specs.Step.{seen as seen_by}
use Rattle.reading.proofs.ViewLaws.{View, View.rest, View.empty, View.cut, View.zeroed, View.nothing, View.over, View.past, view}
use Rattle.reading.proofs.ViewLaws.{View.message as fitting}

-- a place stands in or behind the data packet that ends at a cut, and at a multiple of the alignment; in single packing at its start
pub record Stands (p : Plan) (a : At) : Type 0 where
  pub cut : a.end % p.datapacket ≡ 0
  pub aligned : a.q % p.align ≡ 0
  pub single : p.layout ≡ 0 → a.end ≡ a.q + p.datapacket

-- what stands behind a multiple of the alignment has the tail that it has by itself
pad_shift : (a q x : ℕ) → q % a ≡ 0 → pad a (q + x) ≡ pad a x
unfolding pad
pad_shift a q x e =
    let f : (q + x) % a ≡ x % a = add-mod q x a ∙ rw (e, zero-add (x % a)) (mod-mod x a) in
    rw f

module _ {p : Plan} (k : Ready p) where
  some-cut : 0 < p.datapacket
  some-cut = omega (arith, k.cut-least)

  unframed : p.layout ≡ 3 → ⊥
  unframed e = omega (arith, k.layout)

  packed : ltb 2 p.layout ≡ false
  packed = le-ltb 2 p.layout (omega (arith, k.layout))

  -- cuts are multiples of eight, and so of every alignment
  eights : {a : ℕ} → Aligned a → (x : ℕ) → x % 8 ≡ 0 → x % a ≡ 0
  eights (inl e) x h = rw e (omega arith)
  eights (inr (inl e)) x h = rw e (omega arith)
  eights (inr (inr (inl e))) x h = rw e (omega arith)
  eights (inr (inr (inr e))) x h = rw e h

  cut-aligned : (x : ℕ) → x % p.datapacket ≡ 0 → x % p.align ≡ 0
  cut-aligned x h =
      let i = dvd_of_mod-eq-zero p.align (eights k.aligned p.datapacket k.eights) in
      let d : x % p.datapacket % p.align ≡ x % p.align = mod-mod_of_dvd p.align x i in
      sym d ∙ rw h (zero-mod p.align)

  ---- What is ahead of a place, by the verdict there ---------------------------------------------------------------------------

  ahead-by : (t : List ℕ) (q : ℕ) {v : Verdict} → Judged (setting p) (q % p.datapacket) (length t - q) (len_at (setting p) t q) v
      → ahead (setting p) t q ≡ after (ahead (setting p) t) (as_step t (answer (setting p) t q v))
  unfolding ahead seen
  ahead-by t q j =
      rw (
        walk_eq (step (setting p) t) (length t) (forward (setting p) (good (setting p) k.ok) t) q,
        decided (setting p) (q % p.datapacket) (length t - q) (len_at (setting p) t q) j,
      )

  -- nothing is ahead of the end
  at-end : (t : List ℕ) (q : ℕ) → length t ≤ q → ahead (setting p) t q ≡ list []
  at-end t q l = ahead-by t q (Judged.gone (omega arith))

  ---- A place ------------------------------------------------------------------------------------------------------------------

  module _ {t : List ℕ} {a : At} (s : Standing p t a) (h : Stands p a) where
    abbrev o : ℕ
    o = a.q % p.datapacket

    abbrev left : ℕ
    left = length t - a.q

    -- the bytes to the end of the data packet, from this place or one behind it
    to_end : (x : ℕ) → a.q ≤ x → x < a.end → p.datapacket - x % p.datapacket ≡ a.end - x
    to_end x l u = in_packet p.datapacket some-cut x a.end h.cut u (omega (arith, s.near))

    space-is : (x : ℕ) → a.q ≤ x → x < a.end → space (setting p) t x ≡ min a.end (length t) - x
    space-is x l u = rw (to_end x l u) (omega arith)

    -- LEN, which is said at the header's start
    len-said : says LEN (fields (setting p)) t a.q ≡ number_at p.lenwidth t a.q
    len-said = let e : a.q + place LEN (fields (setting p)) ≡ a.q = omega (arith, k.len-first) in rw (e, ← k.lenwidth)

    head-is : head p t a ≡ a.q
    head-is = rw (ne_eqb p.layout 3 unframed)

    len_is : a.q < a.end → len_at (setting p) t a.q ≡ len p t a
    unfolding len_at
    len_is l =
        let d = space-is a.q (omega arith) l in
        by_less (min a.end (length t)) (a.q + p.size)
        (λ u. rw (head-is, lt-leb _ _ u, lt-ltb (space (setting p) t a.q) (H (setting p)) (omega (arith, k.size, k.size-least))))
        (λ u. rw (head-is, le-leb _ _ u, le-ltb (space (setting p) t a.q) (H (setting p)) (omega (arith, k.size))) len-said)

    -- CTR, which is said behind LEN
    ctr-is : says CTR (fields (setting p)) t a.q ≡ number_at p.ctrwidth t (a.q + p.lenwidth)
    ctr-is =
        by_less 0 p.ctrwidth (λ l. rw (← k.ctrwidth, k.ctr-next l))
        (λ l. let z : p.ctrwidth ≡ 0 = omega arith in rw (← k.ctrwidth, z))

    -- the place behind a message of n bytes
    behind-is : (n : ℕ) → past_at p (head p t a + p.size + n) ≡ a.q + whole (setting p) n
    behind-is n =
        let e = pad_shift p.align a.q (p.size + n) h.aligned in
        let i : a.q + p.size + n ≡ a.q + (p.size + n) = omega arith in
        rw (packed, tailed k, i, e, ← k.size) (omega arith)

    -- in single packing the place is the start of a data packet
    starts : p.layout ≡ 0 → o ≡ 0
    starts e =
        let z : (a.q + p.datapacket) % p.datapacket ≡ 0 = rw (← h.single e) h.cut in
        sym (add-mod_right a.q p.datapacket) ∙ z

    ---- Each case ------------------------------------------------------------------------------------------------------------

    -- from the end of the data packet on, or of the transfer, the same is ahead
    from_end : ahead (setting p) t (min a.end (length t)) ≡ ahead (setting p) t a.end
    from_end =
        by_less (length t) a.end (λ l. at-end t (min a.end (length t)) (omega arith) ∙ sym (at-end t a.end (omega arith)))
        (λ l. let e : min a.end (length t) ≡ a.end = omega arith in rw e)

    -- a rest is passed to the end of its data packet
    passed : (x : ℕ) → a.q ≤ x → x < min a.end (length t)
        → Judged (setting p) (x % p.datapacket) (length t - x) (len_at (setting p) t x) TakeRest → ahead (setting p) t x ≡ ahead (setting p) t a.end
    passed x l u j =
        let e : x + space (setting p) t x ≡ min a.end (length t) = omega (arith, space-is x l (omega arith)) in
        ahead-by t x j ∙ rw e from_end

    bare_over : a.q < min a.end (length t) → 0 < p.layout → len p t a ≡ 0 → ahead (setting p) t a.q ≡ ahead (setting p) t a.end
    bare_over u g z = passed a.q (omega arith) u (Judged.bare (omega arith) g (len_is (omega arith) ∙ z))

    -- .. and so is what lies behind a single message
    single_over : p.layout ≡ 0 → (x : ℕ) → a.q < x → x ≤ min a.end (length t) → ahead (setting p) t x ≡ ahead (setting p) t a.end
    single_over e x l u =
        by_less x (min a.end (length t))
        (λ v. let d = to_end x (omega arith) (omega arith) in passed x (omega arith) v (Judged.behind (omega arith) e (omega (arith, h.single e))))
        (λ v. let i : x ≡ min a.end (length t) = omega arith in rw i from_end)

    next_stands : Stands p (packet_after p a)
    next_stands =
        record {
          cut = add-mod_right a.end p.datapacket ∙ h.cut;
          aligned = cut-aligned a.end h.cut;
          single = λ e. refl;
        }

    tells_rest : 0 < p.layout → len p t a ≡ 0 → a.end < length t → ahead (setting p) t a.q ≡ ahead (setting p) t a.end
    tells_rest g z l =
        by_less a.q a.end (λ u. bare_over (omega arith) g z) (λ u. let e : a.q ≡ a.end = omega (arith, s.short) in rw e)

    tells_nothing : len p t a ≡ 0 → (0 < p.layout → p.layout < 3 → length t ≤ a.end) → (p.layout ≡ 0 → length t ≤ a.q)
        → ahead (setting p) t a.q ≡ list []
    tells_nothing z f g =
        let w : a.q < length t → 0 < p.layout = λ l. by_less 0 p.layout (λ u. u) (λ u. absurd (omega (arith, g (omega arith)))) in
        let e : a.q < length t → length t ≤ a.end = λ l. f (w l) k.layout in
        by_less a.q (length t) (λ l. bare_over (omega (arith, e l)) (w l) z ∙ at-end t a.end (e l)) (at-end t a.q)

    module _ (y : Says p t a) where
      in_both : a.q < min a.end (length t)
      in_both = omega (arith, head-is, k.size-least)

      opened : Open (setting p) o left
      opened = record { some = omega (arith, in_both); first = starts }

      said : len_at (setting p) t a.q ≡ len p t a
      said = len_is (omega (arith, in_both))

      tells_over : p.longest < len p t a → ahead (setting p) t a.q ≡ refused 3 (head p t a)
      tells_over l = ahead-by t a.q (Judged.over opened (omega (arith, said, y.some)) (omega (arith, said))) ∙ rw head-is

      -- whether a message of that length fits
      reach : limit p t a ≡ a.q + room (setting p) o left
      reach =
          let i = in_both in
          by_test (ltb p.layout 2) (λ g. rw (g, to_end a.q (omega arith) (omega arith)) (omega arith)) (λ g. rw g (omega arith))

      tells_past : len p t a ≤ p.longest → limit p t a < next p t a → ahead (setting p) t a.q ≡ refused 5 (head p t a)
      tells_past l u =
          let w : room (setting p) o left < whole (setting p) (len p t a) = omega (arith, reach, behind-is (len p t a)) in
          ahead-by t a.q (Judged.past opened (omega (arith, said, y.some)) (omega (arith, said)) (rw said w)) ∙ rw head-is

      module _ (l : len p t a ≤ p.longest) (u : next p t a ≤ limit p t a) where
        crosses : ahead (setting p) t a.q ≡ before (message t (there p t a) ∷ []) (ahead (setting p) t (next p t a))
        crosses =
            let w : whole (setting p) (len p t a) ≤ room (setting p) o left = omega (arith, reach, behind-is (len p t a)) in
            ahead-by t a.q (Judged.message opened (omega (arith, said, y.some)) (omega (arith, said)) (rw said w))
            ∙ rw (said, ctr-is, ← behind-is (len p t a), ← k.size, head-is)

        next-aligned : (e : ℕ) → past_at p e % p.align ≡ 0
        next-aligned e = rw (packed, tailed k) (pad-whole p.align e (aligned_power k.aligned).low)

        goes_on : a.q < next p t a
        goes_on = omega (arith, behind-is (len p t a), k.size, k.size-least)

        abbrev Told : At → Type 0
        Told b = Tells (ahead (setting p) t) (Stands p) t a (S.Message (there p t a) b)

        single : p.layout ≡ 0 → Told (packet_after p a)
        single e =
            let v : next p t a ≤ min a.end (length t) = rw (lt-ltb p.layout 2 (omega arith)) at u in
            (crosses ∙ ap (before (message t (there p t a) ∷ [])) (single_over e (next p t a) goes_on v), next_stands)

        cut_on : streamed_at p.datapacket a.end (next p t a) % p.datapacket ≡ 0
        cut_on =
            rw (streamed_is p.datapacket some-cut a.end (next p t a) h.cut (omega (arith, s.near, goes_on)))
            (end_starts p.datapacket some-cut (next p t a))

        tells_message : Told (next_at p t a)
        tells_message =
            let d = next-aligned (head p t a + p.size + len p t a) in
            on-by p a (next p t a) Told single (λ e. (crosses, record { cut = cut_on; aligned = d; single = λ j. absurd (omega arith) }))
            (λ e f. (crosses, record { cut = h.cut; aligned = d; single = λ j. absurd (e j) }))

    -- so it does in every case
    told : {v : Seen} → View p t a v → Tells (ahead (setting p) t) (Stands p) t a v
    told (rest g u z l) = (tells_rest g z l, next_stands)
    told (empty e z l) =
        let u : a.q < a.end = omega (arith, h.single e, k.cut-least) in
        ahead-by t a.q (Judged.none (omega arith) e (starts e) (len_is u ∙ z))
    told (cut e l u) = absurd (omega (arith, k.layout))
    told (zeroed e z l) = absurd (omega (arith, k.layout))
    told (nothing z f g i) = tells_nothing z f g
    told (over y f l) = tells_over y l
    told (past y f l) = tells_past y (f unframed) l
    told (fitting y f l) = tells_message y (f unframed) l

  pub tells : (t : List ℕ) (a : At) → Standing p t a → Stands p a → Tells (ahead (setting p) t) (Stands p) t a (seen_by p t a)
  tells t a s h = told s h (view p t a)
