-- What is weighed, and what is written, is what is answered.
use Prim.Native.Nat.{ℕ, ◌+◌, ◌-◌, ◌%◌, ◌<◌, ◌≤◌}
use borrow.Author.Rules.{rules}
use native.Mathlib.Omega.{arith}
use mathlib.Core.Path.{◌≡◌, refl, sym, ap, ◌∙◌}
use mathlib.Core.Bool.{Bool, true, false, ◌||◌, or-true, or-false}
use mathlib.Core.List.{List, ◌∷◌, ◌++◌}
use lib.ListN.{length, get_or, take, drop, length-append}
use lib.Seq.{sets}
use lib.Dec.{eqb, ltb}
use borrow.Author.Tests.{eqb-false, ltb-true, ltb-false}
use Rattle.layout.proofs.RunLaws.{sets-append}
use Rattle.layout.proofs.TestLaws.{or_left, or_right}
use Rattle.lengths.specs.Lengths.{misfit_of}
use Rattle.lengths.proofs.LengthsLaws as M
use Rattle.packet.specs.Writing.{Writing, Writing as TheWriting}
use Rattle.packet.specs.Answer as A
use Rattle.packet.specs.Answer.{Answer, Gives, write_refused}
use Rattle.packet.specs.declared.Reason.{Reason}
use Rattle.packet.specs.declared.Refusal.{Refusal}
use Rattle.packet.specs.Said.{number_of, refusal_at}
use Rattle.packet.specs.Counter.{holds, later}
use Rattle.packet.specs.Limit.{most_lengths, most_bytes}
use Rattle.packet.specs.Packets.{packets, mismatched, first as first_of}
use Rattle.packet.proofs.AnswerLaws.{gives_so}
use Rattle.packet.proofs.CounterLaws as C
use Rattle.packet.proofs.TakeLaws.{taking, packet-long, packets-on}
use Rattle.packet.proofs.WeighLaws as L
use Rattle.packet.proofs.WeighLaws.{Call, answer_of, has_room}
use Rattle.plan.specs.declared.Plan.{Plan}
use Rattle.std.specs.Prelude.{Option, Some, None}
use Rattle.plan.proofs.CaseLaws.{by_test}
use Rattle.rows.specs.Counters.{Said, After}
use Rattle.flexray.specs.declared.Setting.{Setting}
use Rattle.flexray.specs.Setting.{W, moved, sound}
use Rattle.flexray.specs.Writing.{evening, further, frame, spans, misfit, miscounted, composed, write_of}
use Rattle.flexray.proofs.FrameLaws.{evening-length}
use Rattle.flexray_plan.specs.Plan.{setting, planned_of, further_of, Ready}
use Rattle.flexray_plan.proofs.PlanLaws.{planned-ready, unplanned}
use Rattle.sizing.specs.declared.Sized.{Sized}
use Rattle.sizing.specs.Sizes.{first, SizedAs}
use Rattle.sizing.proofs.ReachLaws.{Clear}
use Rattle.writing.specs.declared.Begin.{Begin}
use Rattle.writing.specs.Puts.{bytes_from, Wrote}
use Rattle.writing.proofs.AllLaws.{bytes-length}
use Rattle.flexray_writer.specs.Writes.{head_bytes, Begun, Counted, Fitted, Roomy}
use Rattle.flexray_writer.proofs.FrameLaws.{formed, reach-inside, further-is, index_is, frame-long, frame_past, frame-over}

pub counted : {p : Plan} {b : Begin} {ns : List ℕ} {h m : Bool} → Begun p b → h ≡ holds p.ctrwidth b.ctr → h ≡ true
    → m ≡ (ltb most_lengths (length ns) || miscounted (setting p) ns) → m ≡ false → Counted p b ns
unfolding miscounted
counted {p} {b} {ns} t e f i j =
    let held = sym e ∙ f in
    let x : ltb most_lengths (length ns) || miscounted (setting p) ns ≡ false = sym i ∙ j in
    let m : miscounted (setting p) ns ≡ false = or_right (ltb most_lengths (length ns)) _ x in
    let few = ltb-false most_lengths (length ns) (or_left (ltb most_lengths (length ns)) _ x) in
    let some = eqb-false (length ns) 0 (or_left (eqb (length ns) 0) _ m) in
    let said : Said p.ctrwidth b.ctr = record { narrow = omega (arith, t.ready.ctr-narrow); below = C.held p.ctrwidth b.ctr held } in
    record { begun = t; held = held; counts = m; some = omega arith; few = few; said = said }

module _ {p : Plan} {b : Begin} {ns : List ℕ} (k : Counted p b ns) {f : Plan} (d : f ≡ further_of p) where
  pub fitted : {z : Sized} {bs : List ℕ} → SizedAs f b.q ns z → length ns ≤ z.taken → z.sum ≡ length bs → Fitted p b bs ns z.behind.q
  fitted {z} x l e =
      let t = k.begun in
      let s = rw d at x in
      let all : z.taken ≡ length ns = omega (arith, s.few) in
      let fit = sym s.taken ∙ all in
      let w = s.all all in
      let behind = ap (λ x. x.q) w.behind in
      let near : b.q ≤ p.datapacket = omega (arith, t.last, t.ready.size-most, t.ready.ceiling-least) in
      let inside = reach-inside t.ready {a = first b.q} near ns (record { none = fit }) in
      record { counted = k; same = sym w.sum ∙ e; fit = fit; behind = behind; small = omega (arith, behind, inside, t.ready.ceiling-most) }

---- Composing ------------------------------------------------------------------------------------------------------------------

module _ {p : Plan} {b : Begin} {bs ns : List ℕ} {end : ℕ} (g : Fitted p b bs ns end) where
  t : Begun p b
  t = g.counted.begun

  clear : Clear (further_of p) (first b.q) ns
  clear = record { none = g.fit }

  -- what the loop puts, and that it ends at the place
  abbrev put : List ℕ
  put = bytes_from (further_of p) b.free (first b.q) b.ctr (packets ns bs)

  put-long : b.q + length put ≡ end
  put-long =
      bytes-length (formed t.ready) b.free {a = first b.q} (λ l. absurd (omega arith)) b.ctr ns bs g.same clear ∙ sym g.behind

  whole : further (setting p) b.free b.q (packets ns bs) ≡ put ++ evening (setting p) b.free end
  whole = further-is t.ready b.free {a = first b.q} b.ctr ns bs g.same clear ∙ rw g.behind

  -- the first packet, and those behind it
  abbrev one : List ℕ
  one = take (get_or ns 0 0) (drop 0 bs)

  abbrev others : List (List ℕ)
  others = packets (drop 1 ns) (drop (get_or ns 0 0) bs)

  split : packets ns bs ≡ one ∷ others
  split = packets-on (taking g.same) g.counted.some refl {to = get_or ns 0 0} (omega arith) refl

  long : length (frame (setting p) b.free b.ctr (packets ns bs)) ≡ end + end % 2
  long =
      let e = evening (setting p) b.free end in
      let w : length (further (setting p) b.free b.q (one ∷ others)) ≡ length put + length e =
      ap (λ l. length (further (setting p) b.free b.q l)) (sym split) ∙ rw whole (length-append put e) in
      rw split (omega (arith, frame-long t one others, put-long, evening-length (setting p) b.free end))

  pub roomy : {x : Bool} {m : ℕ} → x ≡ (ltb m (end + end % 2) || ltb most_bytes (end + end % 2)) → x ≡ false → Roomy p b bs ns end m
  roomy {m = m} e h =
      let (room, most) = has_room most_bytes m (end + end % 2) (sym e ∙ h) in
      let l = rw split at long in
      record { fitted = g; room = room; most = most; head = omega (arith, frame_past t one others, l) }

  pub composed-is : {f : Plan} {old x y new : List ℕ} {r n : ℕ} → f ≡ further_of p → Wrote f b bs ns old x r
      → y ≡ sets x end (evening (setting p) b.free end) → n ≡ get_or ns 0 0 → new ≡ sets y 0 (head_bytes (setting p) b.free b.ctr n)
      → new ≡ sets old 0 (frame (setting p) b.free b.ctr (packets ns bs))
  composed-is {old = old} {y = y} d w v e u =
      let z : length one ≡ get_or ns 0 0 = packet-long {bs = bs} {ns = ns} (taking g.same) g.counted.some refl refl in
      let j : y ≡ sets old b.q (further (setting p) b.free b.q (packets ns bs)) =
      v ∙ rw ((rw d at w).bytes, whole) (sym (sets-append put (evening (setting p) b.free end) old b.q ∙ rw put-long)) in
      u ∙ rw (j, e, ← z, split) (frame-over t one others old)

---- The answer -----------------------------------------------------------------------------------------------------------------

-- what is weighed
abbrev call : (s : Setting) (c free : ℕ) (bs ns : List ℕ) → Call
call s c free bs ns =
    record {
      sound = sound s;
      held = holds (W s) c;
      mismatch = mismatched ns bs || miscounted s ns;
      index = first_of (misfit s) (spans s ns);
      count = length ns;
      bytes = frame s free c (packets ns bs);
      most = most_bytes;
      next = later (W s) (moved (length ns)) c;
    }

-- by the plan
module _ (s : Setting) {x : Option Plan} (e : x ≡ planned_of s) where
  module _ {p : Plan} (f : x ≡ Some p) where
    plan_is : (setting p ≡ s) × Ready p
    plan_is = planned-ready (sym f ∙ e)

    pub least : 1 ≤ p.size
    least = plan_is.1.size-least

    pub begun : {c free : ℕ} → Begun p (record { q = p.size - 1; ctr = c; free = free })
    begun = record { ready = plan_is.1; last = omega (arith, least) }

  module _ (c free : ℕ) (bs ns out : List ℕ) {new : List ℕ} {r : Writing} where
    pub by_plan : {p : Plan} → x ≡ Some p → Gives (write_of (setting p) bs ns c free out) r new → Gives (write_of s bs ns c free out) r new
    by_plan f w = rw (plan_is f).0 at w

  pub unsound : (c free : ℕ) (bs ns out : List ℕ) → x ≡ None → write_of s bs ns c free out ≡ write_refused out 1 0
  unfolding write_of composed
  unsound c free bs ns out f = L.unsound (call s c free bs ns) out (unplanned s (sym f ∙ e))

module _ (p : Plan) (b : Begin) (bs ns out : List ℕ) where
  abbrev answer : Answer Writing
  answer = write_of (setting p) bs ns b.ctr b.free out

  abbrev w : Call
  w = call (setting p) b.ctr b.free bs ns

  weighed_so : answer ≡ answer_of w out
  unfolding write_of composed
  weighed_so = refl

  ready : Ready p → holds p.ctrwidth b.ctr ≡ true → A.Ready (sound (setting p)) (holds (W (setting p)) b.ctr)
  ready k h = record { setting = k.ok; counter = rw k.ctrwidth at h }

  module _ {new : List ℕ} {r : Writing} where
    -- by the counter, and how many lengths there are: too many do not match, too
    module _ (t : Begun p b) {h : Bool} (e : h ≡ holds p.ctrwidth b.ctr) where
      pub over : h ≡ false → Gives (write_refused out 1 0) r new → Gives answer r new
      over f = gives_so (weighed_so ∙ L.over w out (rw t.ready.ctrwidth at (sym e ∙ f)))

      pub uncounted : h ≡ true → {m : Bool} → m ≡ (ltb most_lengths (length ns) || miscounted (setting p) ns) → m ≡ true
          → Gives (write_refused out 2 0) r new → Gives answer r new
      uncounted f i j =
          gives_so
          (weighed_so
          ∙ L.unmatched w out (ready t.ready (sym e ∙ f))
          (by_test (ltb most_lengths (length ns)) (λ g. rw (M.many ns bs (ltb-true most_lengths (length ns) g)))
          (λ g. rw (rw g at (sym i ∙ j), or-true))))

    -- by the sizes
    module _ (k : Counted p b ns) {f : Plan} (d : f ≡ further_of p) {z : Sized} (x : SizedAs f b.q ns z) where
      pub unfit : z.taken < length ns → Gives (misfit_of ns bs out z.taken) r new → Gives answer r new
      unfit l =
          gives_so
          (weighed_so
          ∙ M.unfit w out ns bs (ready k.begun.ready k.held) (rw (k.counts, or-false (mismatched ns bs)))
          (index_is k.begun ns ∙ sym (rw d at x).taken) l)

      pub unlike : length ns ≤ z.taken → (z.sum ≡ length bs → ⊥) → Gives (write_refused out 2 0) r new → Gives answer r new
      unlike l h =
          let s = x.all (omega (arith, x.few)) in
          gives_so (weighed_so ∙ L.unmatched w out (ready k.begun.ready k.held) (rw (M.differs ns bs (λ e. h (s.sum ∙ e)))))

  -- by the room
  module _ {end : ℕ} (f : Fitted p b bs ns end) {x : Bool} (e : x ≡ (ltb (length out) (end + end % 2) || ltb most_bytes (end + end % 2))) where
    abbrev k : Counted p b ns
    k = f.counted

    index : first_of (misfit (setting p)) (spans (setting p) ns) ≡ length ns
    index = index_is k.begun ns ∙ f.fit

    matched : mismatched ns bs || miscounted (setting p) ns ≡ false
    matched = rw (M.same ns bs k.few f.same) k.counts

    pub crowded : x ≡ true → {new : List ℕ} {r : Writing} → Gives (write_refused out 4 0) r new → Gives answer r new
    crowded h = gives_so (weighed_so ∙ L.crowded w out (ready k.begun.ready k.held) matched index (long f) (sym e ∙ h))

    pub written : x ≡ false → {new : List ℕ} {n : ℕ} → new ≡ sets out 0 (frame (setting p) b.free b.ctr (packets ns bs))
        → After p.ctrwidth b.ctr n → Gives answer (TheWriting.Bytes (end + end % 2) n) new
    unfolding moved later
    written h i u =
        let (room, most) = has_room most_bytes (length out) (end + end % 2) (sym e ∙ h) in
        gives_so weighed_so
        (L.written w out (ready k.begun.ready k.held) matched index (long f) room most i (u.is ∙ rw k.begun.ready.ctrwidth))

-- a refusal of the whole call
pub refusing : {out : List ℕ} {r : Refusal} {y : Reason} {i : ℕ} → r ≡ refusal_at y i
    → Gives (write_refused out (number_of y) i) (TheWriting.Refused (number_of r.reason) r.place) out
refusing e = rw e (record { answer = refl; lent = refl })

---- For search -----------------------------------------------------------------------------------------------------------------

pub ruleset plans = (rules, gives_so, least, begun, by_plan, unsound)

pub ruleset writes = (rules, roomy, composed-is)
