-- Where a message comes to stand in what is written, by the layout's case: 0 single, 1 multiple, 2 streaming, 3 frame, 4 datagram.
use Rattle.std.specs.Prelude.{ℕ, ◌+◌, ◌%◌, ◌<◌, ◌≤◌, ◌≡◌, Bool, cond, ◌&&◌, ◌||◌, eqb, ltb}
use Rattle.packet.specs.declared.At.{At}
use Rattle.plan.specs.declared.Plan.{Plan}
use Rattle.plan.specs.Place.{header_at, behind_at, streamed_at}
use Rattle.plan.specs.Plan.{Sized}
use Rattle.sizing.specs.declared.Spot.{Spot}

-- a message's bytes, by its packet's: header, packet, tail
abbrev pub whole_of : Plan → ℕ → ℕ
whole_of p n = behind_at p (p.size + n)

-- a message of w bytes goes to the next data packet: each single one, one that is not wholly inside, in a stream one whose header is not. A frame and
-- a datagram are one data packet
abbrev pub crosses_at : Plan → (w : ℕ) → At → Bool
crosses_at p w a = ltb p.layout 3 && (eqb p.layout 0 || ltb a.end (a.q + cond (eqb p.layout 1) w p.size))

-- the end of a place's data packet. Only a stream enters another one
abbrev pub end_at : Plan → (end q : ℕ) → ℕ
end_at p end q = cond (eqb p.layout 2) (streamed_at p.datapacket end q) end

-- a message of w bytes, and the place behind it
abbrev pub standing : Plan → (w : ℕ) → At → (over : Bool) → Spot
standing p w a over =
    let from = cond over a.end (header_at p a.q) in
    record { from = from; next = record { q = from + w; end = end_at p (cond over (a.end + p.datapacket) a.end) (from + w) } }

-- .. of a packet of n bytes
unfoldable pub spot : Plan → At → (n : ℕ) → Spot
spot p a n = standing p (whole_of p n) a (crosses_at p (whole_of p n) a)

---- What the functions ask and tell --------------------------------------------------------------------------------------------

-- what writing asks of a plan
pub record Formed (p : Plan) : Type 0 where
  pub sized : Sized p
  pub longest-most : p.longest < 65536
  pub layout-most : p.layout ≤ 4
  -- at most two bytes of a header are free
  pub free_most : p.size ≤ p.lenwidth + p.ctrwidth + 2
  -- an alignment divides a data packet
  pub eights : p.layout < 2 → p.datapacket % 8 ≡ 0
  -- a datagram aligns nothing
  pub unaligned : p.layout ≡ 4 → p.align ≡ 1

-- a message of w bytes, from a place on that is far below what a number of the machine can be
pub record Reaching (p : Plan) (w : ℕ) (a : At) : Type 0 where
  pub formed : Formed p
  pub small : w ≤ 65546
  pub near : a.q ≤ 900000000

-- a packet of n bytes, from a place on
pub record Placing (p : Plan) (a : At) (n : ℕ) : Type 0 where
  pub formed : Formed p
  pub small : n < 65536
  pub near : a.q ≤ 900000000
  pub end : a.end ≤ a.q + p.datapacket

pub record Placed (p : Plan) (a : At) (n : ℕ) (r : Spot) : Type 0 where
  pub is : r ≡ spot p a n
  pub start : r.from ≤ a.q + p.datapacket + 7
  pub past : r.from + p.size + n ≤ r.next.q
  pub near : r.next.q ≤ r.from + p.size + n + 7
  pub end : r.next.end ≤ r.next.q + p.datapacket
