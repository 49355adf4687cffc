-- The bytes that the loop puts are those of a transfer, and the lengths that it takes are those that fit.
use Prim.Native.Nat.{ℕ, ◌+◌, ◌-◌, ◌%◌, ◌<◌, min}
use native.Mathlib.Omega.{arith}
use native.Mathlib.Nat.{mod-lt}
use mathlib.Core.Path.{◌≡◌, refl, sym, ◌∙◌}
use mathlib.Core.Bool.{Bool, true, false, cond, ◌&&◌, ◌||◌, or-false}
use mathlib.Core.List.{List, [], ◌∷◌, ◌++◌, append_assoc}
use lib.ListN.{length, take, drop, length-drop, length-take}
use lib.Seq.{take_all}
use lib.Dec.{ltb, eqb}
use borrow.Author.Tests.{lt-ltb, le-ltb, le-leb, lt-leb, eqb-true, eqb-false, ne_eqb}
use Rattle.layout.specs.Multiple.{pad}
use Rattle.packet.specs.declared.At.{At}
use Rattle.packet.specs.Counter.{next}
use Rattle.packet.specs.Packets.{sum, packets}
use Rattle.packet.specs.Packets.{first as first_of}
use Rattle.plan.specs.declared.Plan.{Plan}
use Rattle.plan.proofs.CaseLaws.{by_test, by_less}
use Rattle.plan.proofs.PlaceLaws.{end_only, rests_true}
use Rattle.usb.specs.Setting.{whole}
use Rattle.usb.specs.Writing as U
use Rattle.usb.specs.Writing.{skipped, write}
use Rattle.usb_plan.specs.Plan.{setting, Ready}
use Rattle.usb_plan.proofs.PlanLaws.{tailed, messages}
use Rattle.sizing.specs.Places.{whole_of, spot}
use Rattle.sizing.specs.Sizes.{limit_of, misfit, misfit_at, reach, first}
use Rattle.sizing.proofs.ReachLaws.{whole-fits, Fit, Clear, clear_first, spot_past}
use Rattle.writing.specs.Bytes.{rest_bytes, message_bytes}
use Rattle.writing.specs.Puts.{bytes_from}
use Rattle.writing.proofs.PutLaws.{rest-length}
use Rattle.message_writer.specs.Writes.{end_of, output_of}
use Rattle.message_writer.proofs.CaseLaws.{formed}
use Rattle.usb_writer.proofs.ShapeLaws.{head-is}
use Rattle.usb_writer.proofs.SkipLaws.{Cut, first-cut, step}

module _ {p : Plan} (k : Ready p) where
  no_frame : eqb p.layout 3 ≡ false
  no_frame = ne_eqb p.layout 3 (λ e. omega (arith, k.layout))

  ---- One message ----------------------------------------------------------------------------------------------------------------

  rest-is : (free n : ℕ) → U.rest_bytes (setting p) free n ≡ rest_bytes p free n
  unfolding U.rest_bytes rest_bytes
  rest-is free n =
      rw (← k.size, ← k.lenwidth)
      (by_test (eqb p.layout 0) (λ g. let e : p.layout ≡ 0 = eqb-true p.layout 0 g in rw e)
      (λ g. let r = rests_true p (omega (arith, eqb-false p.layout 0 g)) k.layout in
      by_less n p.size (λ l. rw (g, r, lt-ltb n p.size l, lt-leb p.size n l)) (λ l. rw (g, r, le-ltb n p.size l, le-leb p.size n l))))

  whole_is : (n : ℕ) → whole_of p n ≡ whole (setting p) n
  whole_is n = rw (tailed k, k.size)

  message-is : (free c : ℕ) (b : List ℕ) → U.message_bytes (setting p) free c b ≡ message_bytes p free c b
  message-is free c b =
      let n : ℕ = p.size + length b in
      let t : n + pad p.align n - n ≡ pad p.align n = omega arith in
      rw (head-is k free c (length b), ← k.size, tailed k, t)

  ---- Lengths --------------------------------------------------------------------------------------------------------------------

  -- in single and multiple packing a length is limited by what a data packet holds
  limited : (n : ℕ) → ltb (limit_of p) n ≡ (ltb p.longest n || (ltb p.layout 2 && ltb p.datapacket (whole (setting p) n)))
  limited n = rw (← k.size) (at (ltb p.layout 2))
    where
      w : ℕ
      w = p.size + n + pad p.align (p.size + n)

      most : ℕ
      most = min p.longest (p.datapacket - p.size)

      at : (l : Bool) → ltb (cond l most p.longest) n ≡ (ltb p.longest n || (l && ltb p.datapacket w))
      at false = sym (or-false (ltb p.longest n))
      at true =
          by_less p.longest n (λ g. rw (lt-ltb p.longest n g, lt-ltb most n (omega arith)))
          (λ g. by_less p.datapacket (p.size + n)
          (λ l. rw (le-ltb p.longest n g, lt-ltb p.datapacket w (omega arith), lt-ltb most n (omega (arith, k.size-most, k.cut-least))))
          (λ l. rw (le-ltb p.longest n g, le-ltb p.datapacket w (whole-fits k.aligned k.eights l), le-ltb most n (omega arith))))

  misfit-is : (a : At) (n : ℕ) → U.misfit (setting p) n ≡ misfit p a n
  unfolding U.misfit
  misfit-is a n = rw (no_frame, or-false (eqb n 0 || ltb (limit_of p) n), limited n) (at (eqb n 0))
    where
      at : (b : Bool) → (b || ltb p.longest n) || (ltb p.layout 2 && ltb p.datapacket (whole (setting p) n))
          ≡ b || (ltb p.longest n || (ltb p.layout 2 && ltb p.datapacket (whole (setting p) n)))
      at true = refl
      at false = refl

  pub index_is : (a : At) (ns : List ℕ) → first_of (U.misfit (setting p)) ns ≡ misfit_at p a ns
  unfolding first_of misfit_at
  index_is a [] = refl
  index_is a (n ∷ ns) = rw (misfit-is a n, index_is (spot p a n).next ns)

  ---- All messages ---------------------------------------------------------------------------------------------------------------

  reach-cut : {a : At} → Cut p a → (ns : List ℕ) → Clear p a ns → Cut p (reach p a ns)
  unfolding reach
  reach-cut c [] f = c
  reach-cut {a = a} c (n ∷ ns) f = let (x, y) = clear_first f in reach-cut {a = (spot p a n).next} (step k c x).next ns y

  -- the transfer is the messages, and what fills up its last data packet
  module _ (free : ℕ) (full : Bool) where
    write-none : (a : At) (c : ℕ) → write (setting p) free full a.q c [] ≡ bytes_from p free a c [] ++ write (setting p) free full a.q 0 []
    unfolding write bytes_from
    write-none a c = refl

    -- one message, with what is passed over before it, and then v
    write-one : {a : At} → Cut p a → (c : ℕ) (b : List ℕ) → Fit p a (length b) → (bs : List (List ℕ)) (v : List ℕ)
        → write (setting p) free full (spot p a (length b)).next.q (next p.ctrwidth c) bs
        ≡ bytes_from p free (spot p a (length b)).next (next p.ctrwidth c) bs ++ v
        → write (setting p) free full a.q c (b ∷ bs) ≡ bytes_from p free a c (b ∷ bs) ++ v
    unfolding write bytes_from
    write-one {a} t c b x bs v on =
        let n : ℕ = length b in
        let s = step k t x in
        let j : (spot p a n).from - a.q ≡ skipped (setting p) a.q n = omega (arith, s.from) in
        let q : (spot p a n).next.q ≡ a.q + skipped (setting p) a.q n + whole (setting p) n = spot_past p a n ∙ rw (s.from, whole_is n) in
        let r : List ℕ = rest_bytes p free ((spot p a n).from - a.q) in
        let m : List ℕ = message_bytes p free c b in
        let o : List ℕ = bytes_from p free (spot p a n).next (next p.ctrwidth c) bs in
        rw (← q, rest-is free (skipped (setting p) a.q n), ← j, message-is free c b, ← k.ctrwidth, on)
        (sym (append_assoc r (m ++ o) v ∙ rw (append_assoc m o v)))

    write-is : {a : At} → Cut p a → (c : ℕ) (ns bs : List ℕ) → sum ns ≡ length bs → Clear p a ns
        → write (setting p) free full a.q c (packets ns bs)
        ≡ bytes_from p free a c (packets ns bs) ++ write (setting p) free full (reach p a ns).q 0 []
    unfolding packets reach
    write-is {a} t c [] bs e f = write-none a c
    write-is {a} t c (n ∷ ns) bs e f =
        let z : length (take n bs) ≡ n = rw length-take (omega arith) in
        let d : sum ns ≡ length (drop n bs) = rw length-drop (omega arith) in
        let (x, y) = clear_first f in
        write-one t c (take n bs) (rw z x) (packets ns (drop n bs)) (write (setting p) free full (reach p (spot p a n).next ns).q 0 [])
        (rw z (write-is {a = (spot p a n).next} (step k t x).next (next p.ctrwidth c) ns (drop n bs) d y))

  ---- The end --------------------------------------------------------------------------------------------------------------------

  -- a rest of no bytes
  rest-none : (free : ℕ) {x : ℕ} → x ≡ 0 → [] ≡ rest_bytes p free x
  rest-none free {x} e = take_all 0 (rest_bytes p free x) (omega (arith, rest-length (formed (messages k)) free x))

  -- what fills up the last data packet
  end_is : (free : ℕ) (full : Bool) {a : At} → Cut p a → write (setting p) free full a.q 0 [] ≡ rest_bytes p free (end_of p a full - a.q)
  unfolding write
  end_is free false {a} c = rest-none free (omega arith)
  end_is free true {a} c =
      by_less a.q a.end
      (λ l. let e = end_only m some a.q a.end c.cut l c.near in
      by_less 0 (a.q % m)
      (λ g. let x : a.end - a.q ≡ m - a.q % m = omega arith in
      rw (lt-ltb 0 (a.q % m) g, stays, lt-ltb (a.end - a.q) m (omega (arith, mod-lt a.q some)), x) (rest-is free (m - a.q % m)))
      (λ g. rw (le-ltb 0 (a.q % m) g, stays, le-ltb (a.end - a.q) m (omega arith)) (rest-none free (omega arith))))
      (λ l. let e : a.q ≡ a.end = omega (arith, c.ahead) in
      let z : a.q % m ≡ 0 = rw e c.cut in
      rw (le-ltb 0 (a.q % m) (omega arith), stays, lt-ltb (a.end - a.q) m (omega arith)) (rest-none free (omega arith)))
    where
      stays : ltb p.layout 3 ≡ true
      stays = lt-ltb p.layout 3 k.layout

      m : ℕ
      m = p.datapacket

      some : 0 < m
      some = omega (arith, k.cut-least)

  -- what is written by the plan is the transfer
  pub output_is : (bs ns : List ℕ) (c fill : ℕ) (full : Bool) → sum ns ≡ length bs → Clear p (first 0) ns
      → output_of p bs ns c fill full ≡ write (setting p) fill full 0 c (packets ns bs)
  unfolding output_of
  output_is bs ns c fill full e f =
      let d = reach-cut (first-cut k) ns f in
      sym (write-is fill full (first-cut k) c ns bs e f ∙ rw (end_is fill full d))
