-- What a turn keeps of what is written: what is still to be written comes to the same whole.
use Prim.Native.Nat.{ℕ, ◌+◌, ◌-◌, ◌<◌, ◌≤◌}
use native.Mathlib.Omega.{arith}
use mathlib.Core.Path.{◌≡◌, refl, sym, ap, ◌∙◌}
use mathlib.Core.Bool.{true}
use mathlib.Core.List.{List, [], ◌∷◌, ◌++◌}
use lib.ListN.{length, get_or, take, drop, length-append, length-drop, length-take}
use lib.Seq.{sets, length-sets, length-take-le}
use lib.Dec.{eqb}
use Rattle.packet.specs.declared.At.{At}
use Rattle.packet.specs.Counter.{holds, next, later}
use Rattle.packet.specs.Packets.{sum, packets}
use Rattle.packet.proofs.CounterLaws.{held, next-holds}
use Rattle.packet.proofs.TakeLaws.{here, none_left, Taking, taking, inside, others_long, taking_next, packets-on}
use Rattle.plan.specs.declared.Plan.{Plan}
use Rattle.plan.proofs.PlaceLaws.{behind-on}
use Rattle.rows.specs.Counters.{Said, After}
use Rattle.store.proofs.OverLaws.{written_over}
use Rattle.store.proofs.StoreLaws.{along-length, sets_behind}
use Rattle.sizing.specs.declared.Spot.{Spot}
use Rattle.sizing.specs.Places.{spot, Formed, Placing, Placed}
use Rattle.sizing.specs.Sizes.{reach, first}
use Rattle.sizing.proofs.ReachLaws.{Ahead, Fit, Clear, fit-limit, fit-ahead, clear_first, spot_past, reach-past}
use Rattle.sizing.proofs.SizeLaws.{limit-small}
use Rattle.writing.specs.declared.Begin.{Begin}
use Rattle.writing.specs.Bytes.{rest_bytes, message_bytes, over, Passing}
use Rattle.writing.specs.Puts.{passed, bytes_from, Writable, Wrote}
use Rattle.writing.proofs.PutLaws.{rest-length, message-length}

-- one message, and then the others
module _ {p : Plan} (k : Formed p) (free : ℕ) (a : At) (c : ℕ) (b : List ℕ) (bs : List (List ℕ)) (l : a.q ≤ (spot p a (length b)).from) where
  abbrev others : List ℕ
  others = bytes_from p free (spot p a (length b)).next (next p.ctrwidth c) bs

  long : a.q + length (passed p free a (length b) ++ message_bytes p free c b) ≡ (spot p a (length b)).next.q
  long =
      let r : List ℕ = passed p free a (length b) in
      let m : List ℕ = message_bytes p free c b in
      let i : length r ≡ (spot p a (length b)).from - a.q = rest-length k free ((spot p a (length b)).from - a.q) in
      omega (arith, length-append r m, message-length k free c b, spot_past p a (length b))

  -- what was put behind the one is written over
  put_one : (out o : List ℕ) → length o ≤ length others → sets out a.q (bytes_from p free a c (b ∷ bs))
      ≡ sets (sets out a.q (passed p free a (length b) ++ (message_bytes p free c b ++ o))) (spot p a (length b)).next.q others
  unfolding bytes_from
  put_one out o h =
      let r : List ℕ = passed p free a (length b) in
      let m : List ℕ = message_bytes p free c b in
      let next : ℕ = (spot p a (length b)).next.q in
      sets_behind r m others out a.q long
      ∙ sym (rw (sets_behind r m o out a.q long) (written_over others o (sets out a.q (r ++ m)) next h))

  one-length : a.q + length (bytes_from p free a c (b ∷ bs)) ≡ (spot p a (length b)).next.q + length others
  unfolding bytes_from
  one-length =
      let r : List ℕ = passed p free a (length b) in
      let m : List ℕ = message_bytes p free c b in
      omega (arith, length-append r (m ++ others), length-append m others, length-append r m, long)

none-length : (p : Plan) (free : ℕ) (a : At) (c : ℕ) → a.q + length (bytes_from p free a c []) ≡ a.q
unfolding bytes_from
none-length p free a c = omega arith

-- the bytes reach to the place behind the messages
pub bytes-length : {p : Plan} → Formed p → (free : ℕ) {a : At} → (p.layout < 3 → a.q ≤ a.end) → (c : ℕ) (ns bs : List ℕ)
    → sum ns ≡ length bs → Clear p a ns → a.q + length (bytes_from p free a c (packets ns bs)) ≡ (reach p a ns).q
unfolding packets reach
bytes-length {p} k free {a} l c [] bs e f = none-length p free a c
bytes-length {p} k free {a} l c (n ∷ ns) bs e f =
    let z : length (take n bs) ≡ n = rw length-take (omega arith) in
    let d : sum ns ≡ length (drop n bs) = rw length-drop (omega arith) in
    let (x, y) = clear_first f in
    let s = fit-ahead k x l in
    let on : a.q ≤ (spot p a (length (take n bs))).from = rw z s.on in
    let o = rw z at (one-length k free a c (take n bs) (packets ns (drop n bs)) on) in
    o ∙ bytes-length k free {a = (spot p a n).next} s.ahead (next p.ctrwidth c) ns (drop n bs) d y

---- The loop -------------------------------------------------------------------------------------------------------------------

-- the messages before the one at i are written, up to place a; its packet starts at `from`, its counter is c
pub record Writing (p : Plan) (b : Begin) (bs ns old out : List ℕ) (a : At) (c from i : ℕ) : Type 0 where
  pub writable : Writable p b bs ns (length old)
  pub held : holds p.ctrwidth c ≡ true
  pub taking : Taking bs ns from i
  pub fit : Clear p a (drop i ns)
  pub ends : reach p (first b.q) ns ≡ reach p a (drop i ns)
  pub ahead : p.layout < 3 → a.q ≤ a.end
  pub end : a.end ≤ a.q + p.datapacket
  pub bytes : sets old b.q (bytes_from p b.free (first b.q) b.ctr (packets ns bs))
      ≡ sets out a.q (bytes_from p b.free a c (packets (drop i ns) (drop from bs)))
  pub counter : later p.ctrwidth (length ns) b.ctr ≡ later p.ctrwidth (length (drop i ns)) c
  pub long : length out ≡ length old

module _ {p plan : Plan} (o : p ≡ plan) {b : Begin} {bs ns old : List ℕ} where
  pub writing : Writable plan b bs ns (length old) → Writing p b bs ns old old (first b.q) b.ctr 0 0
  writing k =
      let h : Writable p b bs ns (length old) = rw o k in
      record {
        writable = h;
        held = h.held;
        taking = taking h.sum;
        fit = record { none = h.fit };
        ends = refl;
        ahead = λ l. omega (arith, h.start l);
        end = omega arith;
        bytes = refl;
        counter = refl;
        long = refl;
      }

  pub writing_done : {out : List ℕ} {a : At} {c from i : ℕ} → Writing p b bs ns old out a c from i → length ns ≤ i → Wrote plan b bs ns old out c
  unfolding later packets bytes_from
  writing_done {out} {c = c} {i = i} w l =
      let none = none_left ns i l in
      let r : Wrote p b bs ns old out c = record { bytes = sym (w.bytes ∙ rw none); counter = sym (w.counter ∙ rw none) } in
      rw o at r

module _ {p : Plan} {b : Begin} {bs ns old : List ℕ} where
  module _ {out : List ℕ} {a : At} {c from i : ℕ} (w : Writing p b bs ns old out a c from i) where
    abbrev h : Writable p b bs ns (length old)
    h = w.writable

    -- the counter is one that a message can say
    pub said : Said p.ctrwidth c
    said = record { narrow = h.formed.sized.ctr-narrow; below = held p.ctrwidth c w.held }

    module _ (t : i < length ns) {n : ℕ} (e : n ≡ get_or ns i 0) where
      fits : Fit p a n × Clear p (spot p a n).next (drop (i + 1) ns)
      fits = clear_first (rw (here ns i t e) at w.fit)

      past : Ahead p a (spot p a n)
      past = fit-ahead h.formed fits.0 w.ahead

      small : n < 65536
      small = omega (arith, fit-limit h.formed fits.0, limit-small p, h.formed.longest-most)

      reach-on : reach p (first b.q) ns ≡ reach p (spot p a n).next (drop (i + 1) ns)
      unfolding reach
      reach-on = w.ends ∙ rw (here ns i t e)

      -- where the next place is, at most: the packets behind it are still to come
      behind : (spot p a n).next.q + sum (drop (i + 1) ns) ≤ (reach p (first b.q) ns).q
      behind =
          let r : (reach p (first b.q) ns).q ≡ (reach p (spot p a n).next (drop (i + 1) ns)).q = ap (λ x. x.q) reach-on in
          omega (arith, reach-past h.formed past.ahead (drop (i + 1) ns) fits.1)

      -- the messages still to come, and they have no fewer bytes than their packets
      abbrev coming : List ℕ
      coming = bytes_from p b.free (spot p a n).next (next p.ctrwidth c) (packets (drop (i + 1) ns) (drop (from + n) bs))

      coming_least : sum (drop (i + 1) ns) ≤ length coming
      coming_least =
          let s = (taking_next w.taking t e refl).left in
          let m : sum (drop (i + 1) ns) ≡ length (drop (from + n) bs) = rw length-drop (omega arith) in
          omega (
            arith,
            reach-past h.formed past.ahead (drop (i + 1) ns) fits.1,
            bytes-length h.formed b.free past.ahead (next p.ctrwidth c) (drop (i + 1) ns) (drop (from + n) bs) m fits.1,
          )

      pub placing : Placing p a n
      placing =
          record { formed = h.formed; small = small; near = omega (arith, past.on, spot_past p a n, behind, h.most); end = w.end }

      module _ {d : Spot} (x : Placed p a n d) {left : List ℕ} (f : left ≡ drop from bs) where
        there : n ≤ length left
        there = let g = inside w.taking t e in rw (f, length-drop) (omega arith)

        others_left : sum (drop (i + 1) ns) ≡ length left - n
        others_left = rw f (others_long w.taking t e)

        pub passing : Passing p out a.q d.from left n
        passing =
            let g = behind-on p (p.size + n) in
            rw x.is
            (record {
              skipping = record {
                resting = record { formed = h.formed; room = omega (arith, past.on, spot_past p a n, behind, h.room, w.long) };
                few = past.few;
                stream = past.stream;
              };
              on = past.on;
              there = there;
              small = small;
              room = omega (arith, spot_past p a n, behind, h.room, w.long);
              all = omega (arith, spot_past p a n, there, others_left, behind, h.room, w.long);
            })

        pub writing_next : {new : List ℕ} {r : ℕ}
            → new ≡ sets out a.q (rest_bytes p b.free (d.from - a.q) ++ (message_bytes p b.free c (take n left) ++ over p n left))
            → After p.ctrwidth c r → Writing p b bs ns old new d.next r (from + n) (i + 1)
        unfolding later
        writing_next {new} {r} v u =
            let j : d.next ≡ (spot p a n).next = ap (λ q. q.next) x.is in
            let packet : List ℕ = take n left in
            let l : length packet ≡ n = length-take-le n left there in
            let rest : List ℕ = passed p b.free a (length packet) in
            let msg : List ℕ = message_bytes p b.free c packet in
            let o : List ℕ = over p n left in
            let wrote : new ≡ sets out a.q (rest ++ (msg ++ o)) = v ∙ rw (x.is, l) in
            let g : length o ≤ length coming = omega (arith, along-length (eqb p.layout 4) n left there, others_left, coming_least) in
            let q = put_one h.formed b.free a c packet (packets (drop (i + 1) ns) (drop (from + n) bs)) (rw l past.on) out o (rw l g) in
            rw j
            (record {
              writable = h;
              held = rw u.is (next-holds p.ctrwidth c w.held);
              taking = taking_next w.taking t e refl;
              fit = fits.1;
              ends = reach-on;
              ahead = past.ahead;
              end = rw j at x.end;
              bytes = w.bytes ∙ rw (packets-on w.taking t e refl (ap (take n) f)) (q ∙ rw (← wrote, l, ← u.is));
              counter = w.counter ∙ rw (here ns i t e, u.is);
              long = ap length wrote ∙ length-sets out a.q (rest ++ (msg ++ o)) ∙ w.long;
            })
