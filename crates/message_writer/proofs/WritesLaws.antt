-- What is weighed, and what is written, is what is answered.
use Prim.Native.Nat.{ℕ, ◌+◌, ◌-◌, ◌<◌, ◌≤◌}
use native.Mathlib.Omega.{arith}
use borrow.Author.Rules.{rules}
use mathlib.Core.Path.{◌≡◌, refl, sym, ap, ◌∙◌}
use mathlib.Core.Bool.{Bool, true, false, ◌&&◌, ◌||◌}
use mathlib.Core.List.{List}
use lib.ListN.{length, length-append}
use lib.Seq.{sets}
use lib.Dec.{ltb, eqb}
use borrow.Author.Tests.{ltb-true}
use Rattle.layout.proofs.RunLaws.{sets-append}
use Rattle.layout.proofs.TestLaws.{and_right}
use Rattle.lengths.specs.Lengths.{misfit_of}
use Rattle.lengths.proofs.LengthsLaws as M
use Rattle.packet.specs.declared.At.{At}
use Rattle.packet.specs.declared.Reason.{Reason}
use Rattle.packet.specs.declared.Reason.TheVariants as Y
use Rattle.packet.specs.declared.Refusal.{Refusal}
use Rattle.packet.specs.Writing.{Writing}
use Rattle.packet.specs.Writing.{Writing as W}
use Rattle.packet.specs.Answer as A
use Rattle.packet.specs.Answer.{Answer, Gives, write_refused}
use Rattle.packet.specs.Said.{number_of, refusal_at}
use Rattle.packet.specs.Counter.{holds, later}
use Rattle.packet.specs.Limit.{most_lengths, most_bytes, Short}
use Rattle.packet.specs.Packets.{packets, mismatched}
use Rattle.packet.proofs.AnswerLaws.{gives_so}
use Rattle.packet.proofs.WeighLaws as L
use Rattle.packet.proofs.WeighLaws.{Call, answer_of, has_room}
use Rattle.plan.specs.declared.Plan.{Plan}
use Rattle.plan.specs.Plan.{most_of, Messages}
use Rattle.plan.proofs.CaseLaws.{by_test}
use Rattle.sizing.specs.declared.Sized.{Sized}
use Rattle.sizing.specs.Sizes.{misfit_at, reach, first, SizedAs}
use Rattle.sizing.proofs.ReachLaws.{Clear, reach-ahead}
use Rattle.writing.specs.Bytes.{rest_bytes, Resting}
use Rattle.writing.specs.Puts.{bytes_from, Wrote}
use Rattle.writing.proofs.AllLaws.{bytes-length}
use Rattle.writing.proofs.PutLaws.{rest-length}
use Rattle.message_writer.specs.Writes.{end_of, composed, output_of, writes_by, Sizing, Putting, Ahead, Sizes}
use Rattle.message_writer.specs.Writes.{Fitted, Roomy, Composed}
use Rattle.message_writer.proofs.CaseLaws.{formed}

pub sizing : {p : Plan} → Messages p → {ns : List ℕ} → length ns ≤ most_lengths → Sizing p ns
sizing k l = let m = formed k in search rules

fitted : {p : Plan} {bs ns : List ℕ} {c : ℕ} {z : Sized} → Sizes p ns c z → length ns ≤ z.taken → z.sum ≡ length bs
    → Fitted p bs ns c z.behind
fitted {ns = ns} {z = z} x l e =
    let s = x.sized in
    let t : z.taken ≡ length ns = omega (arith, s.few) in
    let w = s.all t in
    record { counted = x.counted; same = sym w.sum ∙ e; fit = sym s.taken ∙ t; behind = w.behind }

---- Composing ------------------------------------------------------------------------------------------------------------------

module _ {p : Plan} {bs ns : List ℕ} {c : ℕ} {a : At} (f : Fitted p bs ns c a) where
  k : Messages p
  k = f.counted.messages

  clear : Clear p (first 0) ns
  clear = record { none = f.fit }

  pub ahead : Ahead p a
  ahead = record { ahead = rw f.behind (reach-ahead (formed k) {a = first 0} (λ _. omega arith) ns clear) }

  past : (full : Bool) → a.q ≤ end_of p a full
  past full =
      by_test (full && ltb p.layout 3)
      (λ g. let l = ahead.ahead (ltb-true p.layout 3 (and_right full (ltb p.layout 3) g)) in
      by_test (ltb (a.end - a.q) p.datapacket) (λ h. rw (g, h) l) (λ h. rw (g, h) (omega arith)))
      (λ g. rw g (omega arith))

  -- the messages end at the place
  messages-long : (fill : ℕ) → length (bytes_from p fill (first 0) c (packets ns bs)) ≡ a.q
  messages-long fill =
      let e : a.q ≡ (reach p (first 0) ns).q = ap (λ x. x.q) f.behind in
      omega (arith, bytes-length (formed k) fill {a = first 0} (λ _. omega arith) c ns bs f.same clear)

  module _ (fill : ℕ) (full : Bool) {end : ℕ} (e : end ≡ end_of p a full) where
    -- the output, as it is composed
    whole : output_of p bs ns c fill full ≡ composed p fill c a end (packets ns bs)
    unfolding output_of
    whole = let b = f.behind in rw (e, ← b)

    -- it is as long as it was sized
    long : length (output_of p bs ns c fill full) ≡ end
    long =
        let m : List ℕ = bytes_from p fill (first 0) c (packets ns bs) in
        let r = rest-length (formed k) fill (end - a.q) in
        let o = length-append m (rest_bytes p fill (end - a.q)) in
        ap length whole ∙ omega (arith, messages-long fill, past full)

  most-short : most_of p ≤ most_bytes
  most-short = by_test (eqb p.layout 4) (λ g. rw g (omega (arith, k.sized.cut_most))) (λ g. rw g (omega arith))

  module _ (n end : ℕ) {m : ℕ} (e : m ≡ most_of p) {b : Bool} (g : b ≡ (ltb n end || ltb m end)) (h : b ≡ false) where
    pub roomy : (full : Bool) → end ≡ end_of p a full → Roomy p bs ns c a end n
    roomy full i =
        let (room, most) = has_room m n end (sym g ∙ h) in
        record { fitted = f; past = omega (arith, past full); room = room; most = omega (arith, most-short) }

    -- its length is a number of 32 bits
    pub short : end < 4294967296
    short = let (room, most) = has_room m n end (sym g ∙ h) in omega (arith, most-short)

module _ {p : Plan} {bs ns : List ℕ} {c : ℕ} {a : At} {end n : ℕ} (h : Roomy p bs ns c a end n) where
  pub putting : {fill : ℕ} → Putting p (record { q = 0; ctr = c; free = fill }) bs ns n
  putting =
      let f = h.fitted in
      let m = formed f.counted.messages in
      let e : a.q ≡ (reach p (first 0) ns).q = ap (λ x. x.q) f.behind in
      search rules

  pub resting : (out : List ℕ) → length out ≡ n → Resting p out a.q (end - a.q)
  resting out e = record { formed = formed h.fitted.counted.messages; room = omega (arith, h.past, h.room) }

  pub composed-is : {fill : ℕ} {old one new : List ℕ} {r : ℕ} → Wrote p (record { q = 0; ctr = c; free = fill }) bs ns old one r
      → new ≡ sets one a.q (rest_bytes p fill (end - a.q)) → Composed p bs ns c fill a end old new r
  composed-is {fill} {old} w x =
      let m : List ℕ = bytes_from p fill (first 0) c (packets ns bs) in
      let r : List ℕ = rest_bytes p fill (end - a.q) in
      let e : 0 + length m ≡ a.q = omega (arith, messages-long h.fitted fill) in
      record { bytes = x ∙ rw w.bytes (sym (sets-append m r old 0 ∙ rw e)); counter = w.counter }

---- The answer -----------------------------------------------------------------------------------------------------------------

-- a refusal leaves the output
refusing : {a : Answer Writing} {out : List ℕ} {r : Refusal} {y : Reason} {i : ℕ} → a ≡ write_refused out (number_of y) i → r ≡ refusal_at y i
    → Gives a (W.Refused (number_of r.reason) r.place) out
refusing e f = rw (e, f) (record { answer = refl; lent = refl })

module _ (bs ns : List ℕ) (c fill : ℕ) (full : Bool) (out : List ℕ) where
  -- what is weighed
  abbrev call : Plan → Call
  call p =
      record {
        sound = true;
        held = holds p.ctrwidth c;
        mismatch = mismatched ns bs;
        index = misfit_at p (first 0) ns;
        count = length ns;
        bytes = output_of p bs ns c fill full;
        most = most_of p;
        next = later p.ctrwidth (length ns) c;
      }

  weighed_so : (p : Plan) → writes_by p bs ns c fill full out ≡ answer_of (call p) out
  unfolding writes_by
  weighed_so p = refl

  willing : {held : Bool} → held ≡ true → A.Ready true held
  willing h = record { setting = refl; counter = h }

  module _ {p : Plan} {z : Sized} (x : Sizes p ns c z) where
    unfit : z.taken < length ns → writes_by p bs ns c fill full out ≡ misfit_of ns bs out z.taken
    unfit l = weighed_so p ∙ M.unfit (call p) out ns bs (willing x.counted.held) refl (sym x.sized.taken) l

    unlike : length ns ≤ z.taken → (z.sum ≡ length bs → ⊥) → writes_by p bs ns c fill full out ≡ write_refused out 2 0
    unlike l f =
        let s = x.sized in
        let w = s.all (omega (arith, s.few)) in
        weighed_so p ∙ L.unmatched (call p) out (willing x.counted.held) (M.differs ns bs (λ e. f (w.sum ∙ e)))

  module _ {p : Plan} {a : At} {end : ℕ} (f : Fitted p bs ns c a) (e : end ≡ end_of p a full) where
    matched : mismatched ns bs ≡ false
    matched = M.same ns bs f.counted.few f.same

    module _ {m : ℕ} (i : m ≡ most_of p) {b : Bool} (g : b ≡ (ltb (length out) end || ltb m end)) where
      pub crowded : b ≡ true → {r : Refusal} → r ≡ refusal_at Y.NoRoom 0
          → Gives (writes_by p bs ns c fill full out) (W.Refused (number_of r.reason) r.place) out
      crowded h = refusing (weighed_so p ∙ L.crowded (call p) out (willing f.counted.held) matched f.fit (long f fill full e) (rw (← i) (sym g ∙ h)))

      pub written : {new : List ℕ} {r : ℕ} → b ≡ false → Composed p bs ns c fill a end out new r
          → Gives (writes_by p bs ns c fill full out) (W.Bytes end r) new
      written h x =
          let (room, most) = has_room m (length out) end (sym g ∙ h) in
          gives_so (weighed_so p)
          (L.written (call p) out (willing f.counted.held) matched f.fit (long f fill full e) room (omega arith)
          (x.bytes ∙ rw (whole f fill full e)) x.counter)

-- a refusal, by the counter, by how many lengths there are, and by their sizes
module _ {p : Plan} (k : Messages p) (ns : List ℕ) (c : ℕ) {b : Bool} (e : b ≡ holds p.ctrwidth c) where
  module _ (bs : List ℕ) (fill : ℕ) (full : Bool) (out : List ℕ) {r : Refusal} where
    pub over : b ≡ false → r ≡ refusal_at Y.Unsound 0 → Gives (writes_by p bs ns c fill full out) (W.Refused (number_of r.reason) r.place) out
    over f = refusing (weighed_so bs ns c fill full out p ∙ L.over (call bs ns c fill full out p) out (sym e ∙ f))

    pub many : b ≡ true → most_lengths < length ns → r ≡ refusal_at Y.Mismatch 0
        → Gives (writes_by p bs ns c fill full out) (W.Refused (number_of r.reason) r.place) out
    many f l =
        refusing
        (weighed_so bs ns c fill full out p
        ∙ L.unmatched (call bs ns c fill full out p) out (willing bs ns c fill full out (sym e ∙ f)) (M.many ns bs l))

  module _ (h : b ≡ true) (l : length ns ≤ most_lengths) {z : Sized} (s : SizedAs p 0 ns z) where
    sizes : Sizes p ns c z
    sizes = record { counted = record { messages = k; held = sym e ∙ h; few = l }; sized = s }

    pub index_short : z.taken < length ns → Short z.taken
    index_short t = record { short = omega (arith, l) }

    module _ (bs : List ℕ) (fill : ℕ) (full : Bool) (out : List ℕ) (r : Refusal) where
      pub unfit_so : z.taken < length ns → ((o : List ℕ) → Gives (misfit_of ns bs o z.taken) (W.Refused (number_of r.reason) r.place) o)
          → Gives (writes_by p bs ns c fill full out) (W.Refused (number_of r.reason) r.place) out
      unfit_so t g = gives_so (unfit bs ns c fill full out sizes t) (g out)

      pub unlike_so : length ns ≤ z.taken → (z.sum ≡ length bs → ⊥) → r ≡ refusal_at Y.Mismatch 0
          → Gives (writes_by p bs ns c fill full out) (W.Refused (number_of r.reason) r.place) out
      unlike_so t f = refusing (unlike bs ns c fill full out sizes t f)

    pub fitted_so : {bs : List ℕ} → length ns ≤ z.taken → z.sum ≡ length bs → Fitted p bs ns c z.behind
    fitted_so = fitted sizes

pub ruleset answers = (rules, sizing, over, many, index_short, unfit_so, unlike_so, fitted_so)

pub ruleset rooms = (rules, gives_so, ahead, roomy, short, crowded, written)

pub ruleset compositions = (rules, putting, resting, composed-is)
