-- What stands at a place, in the numbers of a plan: one step for every layout. Each transport shows that it tells what its own definition says.
use Rattle.std.specs.Prelude.{ℕ, ◌+◌, ◌<◌, ◌≤◌, min, ◌≡◌, Bool, true, false, cond, not, ◌&&◌, ◌||◌, List, length, leb, ltb, eqb}
use Rattle.layout.specs.Field.{number_at}
use Rattle.packet.specs.declared.At.{At}
use Rattle.packet.specs.declared.Found.{Found}
use Rattle.packet.specs.Seen.{Seen, Seen as S}
use Rattle.plan.specs.declared.Plan.{Plan}
use Rattle.plan.specs.Place.{rests, header_at, behind_at, packet_after, on_at}

-- LEN of a header at h; 0 where it is tested, and no header fits before the end
abbrev pub len_at : (tests : Bool) → Plan → List ℕ → (h end : ℕ) → ℕ
len_at tests p t h end = cond (not tests || leb (h + p.size) end) (number_at p.lenwidth t h) 0

-- the message whose header at h says a length of n
abbrev pub found_at : Plan → List ℕ → (h n : ℕ) → Found
found_at p t h n = record { at = h + p.size; len = n; ctr = number_at p.ctrwidth t (h + p.lenwidth) }

-- the place behind a packet that ends at e: behind its tail, where there are data packets. A frame and a datagram have none
abbrev pub past_at : Plan → (e : ℕ) → ℕ
past_at p e = cond (ltb 2 p.layout) e (behind_at p e)

-- where LEN is 0 or no header fits: a rest with data packets behind it; in single packing and a datagram, where some bytes are left, 6, but 5 where
-- a datagram's are too few for a header; else nothing is left
abbrev pub bare_by : (rest some short : Bool) → Plan → At → Seen
bare_by true some short p a = S.Rest (packet_after p a)
bare_by false true true p a = S.Refused 5 a.q
bare_by false true false p a = S.Refused 6 a.q
bare_by false false short p a = S.Nothing

-- .. in n bytes, at a place whose header would stand at h
abbrev pub bare_seen : Plan → (n : ℕ) → At → (h : ℕ) → Seen
bare_seen p n a h =
    bare_by (rests p && ltb a.end n) ((eqb p.layout 0 || eqb p.layout 4) && ltb a.q n) (eqb p.layout 4 && ltb n (h + p.size)) p a

-- where a header at h says a length: over X, longer than there is room, or a message
abbrev pub message_by : (over past : Bool) → ℕ → Found → At → Seen
message_by true past h m next = S.Refused 3 h
message_by false true h m next = S.Refused 5 h
message_by false false h m next = S.Message m next

module _ (p : Plan) (t : List ℕ) (a : At) where
  abbrev pub head : ℕ
  head = header_at p a.q

  abbrev pub len : ℕ
  len = len_at true p t head (min a.end (length t))

  abbrev pub next : ℕ
  next = past_at p (head + p.size + len)

  -- up to where a message may reach: in single and multiple packing the end of its data packet
  abbrev pub limit : ℕ
  limit = cond (ltb p.layout 2) (min a.end (length t)) (length t)

  -- the message that stands here, if one does, and the place behind it
  abbrev pub there : Found
  there = found_at p t head len

  abbrev pub next_at : At
  next_at = on_at p a next

  unfoldable pub seen : Seen
  seen =
      cond (eqb len 0) (bare_seen p (length t) a head)
      (message_by (not (eqb p.layout 3) && ltb p.longest len) (ltb limit next) head there next_at)

  -- a header that fits, and says a length
  pub record Says : Type 0 where
    pub fits : head + p.size ≤ min a.end (length t)
    pub is : len ≡ number_at p.lenwidth t head
    pub some : 0 < len
