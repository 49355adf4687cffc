-- What is written by a plan, where each packet has a header of its own; and what the functions above the loops ask and tell.
use Rattle.std.specs.Prelude.{ℕ, ◌-◌, ◌<◌, ◌≤◌, ◌≡◌, Bool, true, cond, ◌&&◌, List, ◌++◌, length, ltb}
use Rattle.std.proofs.lemmas.List.Edits.{sets}
use Rattle.packet.specs.declared.At.{At}
use Rattle.packet.specs.Writing.{Writing}
use Rattle.packet.specs.Answer.{Answer, weighed, stored}
use Rattle.packet.specs.Counter.{holds, later}
use Rattle.packet.specs.Limit.{most_lengths, most_bytes}
use Rattle.packet.specs.Packets.{sum, packets, mismatched}
use Rattle.plan.specs.declared.Plan.{Plan}
use Rattle.plan.specs.Plan.{most_of, Messages}
use Rattle.sizing.specs.declared.Sized.{Sized}
use Rattle.sizing.specs.Sizes.{misfit_at, reach, first, Sizable, SizedAs}
use Rattle.writing.specs.declared.Begin.{Begin}
use Rattle.writing.specs.Bytes.{rest_bytes}
use Rattle.writing.specs.Puts.{bytes_from, Writable}

---- The answer -----------------------------------------------------------------------------------------------------------------

-- where an output ends whose messages end at a place: there, or filled up, where its data packet does. A datagram has no end to be filled up to
abbrev pub end_of : Plan → At → Bool → ℕ
end_of p a full = cond (full && ltb p.layout 3) (cond (ltb (a.end - a.q) p.datapacket) a.end a.q) a.q

-- messages that end at a place, and a rest behind them up to the end
abbrev pub composed : Plan → (fill c : ℕ) → At → (end : ℕ) → List (List ℕ) → List ℕ
composed p fill c a end bs = bytes_from p fill (first 0) c bs ++ rest_bytes p fill (end - a.q)

-- the output, where the lengths are those of the packets, and fit
unfoldable pub output_of : Plan → (bs ns : List ℕ) (c fill : ℕ) (full : Bool) → List ℕ
output_of p bs ns c fill full =
    let a = reach p (first 0) ns in
    composed p fill c a (end_of p a full) (packets ns bs)

-- packets of the lengths ns in the joined bytes bs, first counter, fill byte, whether to fill up
unfoldable pub writes_by : Plan → (bs ns : List ℕ) (c fill : ℕ) (full : Bool) (out : List ℕ) → Answer Writing
writes_by p bs ns c fill full out =
    stored (most_of p) (later p.ctrwidth (length ns) c) out
    (weighed true (holds p.ctrwidth c) (mismatched ns bs) (misfit_at p (first 0) ns) (length ns) (output_of p bs ns c fill full))

---- What the functions ask and tell --------------------------------------------------------------------------------------------

-- lengths to be sized, and packets to be put
pub record Sizing (p : Plan) (ns : List ℕ) : Type 0 where
  pub messages : Messages p
  pub sizable : Sizable p 0 ns

pub record Putting (p : Plan) (b : Begin) (bs ns : List ℕ) (n : ℕ) : Type 0 where
  pub messages : Messages p
  pub writable : Writable p b bs ns n

-- a place that is not past the end of its data packet
pub record Ahead (p : Plan) (a : At) : Type 0 where
  pub ahead : p.layout < 3 → a.q ≤ a.end

-- the counter is right, and there are not too many lengths
pub record Counted (p : Plan) (ns : List ℕ) (c : ℕ) : Type 0 where
  pub messages : Messages p
  pub held : holds p.ctrwidth c ≡ true
  pub few : length ns ≤ most_lengths

-- .. and they were sized
pub record Sizes (p : Plan) (ns : List ℕ) (c : ℕ) (z : Sized) : Type 0 where
  pub counted : Counted p ns c
  pub sized : SizedAs p 0 ns z

-- .. their sum is that of the bytes, and all fit: their messages end at a place
pub record Fitted (p : Plan) (bs ns : List ℕ) (c : ℕ) (a : At) : Type 0 where
  pub counted : Counted p ns c
  pub same : sum ns ≡ length bs
  pub fit : misfit_at p (first 0) ns ≡ length ns
  pub behind : a ≡ reach p (first 0) ns

-- .. and n bytes have room for the output, which ends there
pub record Roomy (p : Plan) (bs ns : List ℕ) (c : ℕ) (a : At) (end n : ℕ) : Type 0 where
  pub fitted : Fitted p bs ns c a
  pub past : a.q ≤ end
  pub room : end ≤ n
  pub most : end ≤ most_bytes

pub record Composed (p : Plan) (bs ns : List ℕ) (c fill : ℕ) (a : At) (end : ℕ) (old new : List ℕ) (r : ℕ) : Type 0 where
  pub bytes : new ≡ sets old 0 (composed p fill c a end (packets ns bs))
  pub counter : r ≡ later p.ctrwidth (length ns) c
