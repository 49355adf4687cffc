-- Places, by the layout's case: 0 single, 1 multiple, 2 streaming, 3 frame, 4 datagram.
use Rattle.std.specs.Prelude.{ℕ, ◌+◌, ◌-◌, ◌%◌, ◌<◌, ◌≤◌, ◌≡◌, Bool, cond, ◌||◌, eqb, ltb}
use Rattle.layout.specs.Multiple.{pad, Aligned}
use Rattle.packet.specs.declared.At.{At}
use Rattle.plan.specs.declared.Plan.{Plan}

-- whether data packets may end with a rest
abbrev pub rests : Plan → Bool
rests p = eqb p.layout 1 || eqb p.layout 2

-- where the header stands at a place: a frame's place is the end of a packet, and the byte before the next packet is its header
abbrev pub header_at : Plan → (q : ℕ) → ℕ
header_at p q = cond (eqb p.layout 3) (q + pad p.align (q + 1)) q

-- the place behind a packet that ends at e: behind its tail, where it has one. A datagram's alignment is 1, which leaves none
abbrev pub behind_at : Plan → (e : ℕ) → ℕ
behind_at p e = cond (eqb p.layout 3) e (e + pad p.align e)

-- the end of a stream's data packet: this one's, the next one's, or found by a division
abbrev pub streamed_at : (m end q : ℕ) → ℕ
streamed_at m end q =
    let next = cond (ltb q end) end (end + m) in
    cond (ltb q next) next (q + (m - q % m))

-- the start of the next data packet
abbrev pub packet_after : Plan → At → At
packet_after p a = record { q = a.end; end = a.end + p.datapacket }

-- the place behind a message whose bytes end at `next`; behind a single one the rest of its data packet is passed
abbrev pub on_at : Plan → At → (next : ℕ) → At
on_at p a next =
    cond (eqb p.layout 0) (packet_after p a)
    (cond (eqb p.layout 2) (record { q = next; end = streamed_at p.datapacket a.end next }) (record { q = next; end = a.end }))

---- What the functions ask and tell --------------------------------------------------------------------------------------------

-- a place that can be rounded up
pub record Near (align q : ℕ) : Type 0 where
  pub aligned : Aligned align
  pub near : q < 1000000000

-- x, which is at most seven beyond q
pub record Beyond (x q r : ℕ) : Type 0 where
  pub is : r ≡ x
  pub on : q ≤ r
  pub small : r ≤ q + 7

pub record Streaming (m end q : ℕ) : Type 0 where
  pub cut : 0 < m
  pub short : m ≤ 1472
  pub near : q < 1000000000
  pub far : end < 1000000000
