-- The bytes of a rest and of a message, by the layout's case: 0 single, 1 multiple, 2 streaming, 3 frame, 4 datagram. LEN stands first in a header,
-- CTR behind it, and what is behind both is free.
use Rattle.std.specs.Prelude.{ℕ, ◌+◌, ◌-◌, ◌<◌, ◌≤◌, ◌≡◌, cond, ◌&&◌, List, ◌++◌, length, replicate, eqb, leb, ltb}
use Rattle.layout.specs.Field.{bytes}
use Rattle.plan.specs.declared.Plan.{Plan}
use Rattle.plan.specs.Place.{rests}
use Rattle.store.specs.Store.{along}
use Rattle.sizing.specs.Places.{whole_of, Formed}

-- a rest of n bytes: free, but for a zero LEN where data packets may end with a rest and a header fits
unfoldable pub rest_bytes : Plan → (free n : ℕ) → List ℕ
rest_bytes p free n = cond (rests p && leb p.size n) (bytes p.lenwidth 0 ++ replicate (n - p.lenwidth) free) (replicate n free)

-- the header of a packet of n bytes
abbrev pub head_bytes : Plan → (free c n : ℕ) → List ℕ
head_bytes p free c n =
    bytes p.lenwidth n ++ (bytes p.ctrwidth c ++ replicate (p.size - p.lenwidth - p.ctrwidth) free)

-- header, packet and tail
abbrev pub message_bytes : Plan → (free c : ℕ) → List ℕ → List ℕ
message_bytes p free c b = head_bytes p free c (length b) ++ (b ++ replicate (whole_of p (length b) - (p.size + length b)) free)

-- so many last bytes of a message, which hold its tail, if it has one: as many as the alignment, or one below 4. A frame and a datagram have none
abbrev pub last_of : Plan → ℕ
last_of p = cond (ltb 2 p.layout) 0 (cond (leb 4 p.align) p.align 1)

-- what comes to stand behind a datagram's message, whose packet is the first n bytes of those left, until the next one is written over it
abbrev pub over : Plan → (n : ℕ) → List ℕ → List ℕ
over p n left = along (eqb p.layout 4) n left

---- What putting them asks -----------------------------------------------------------------------------------------------------

pub record Resting (p : Plan) (out : List ℕ) (at n : ℕ) : Type 0 where
  pub formed : Formed p
  pub room : at + n ≤ length out

-- n bytes before a message: in a frame the few that align it, in a stream less than a header has
pub record Skipping (p : Plan) (out : List ℕ) (at n : ℕ) : Type 0 where
  pub resting : Resting p out at n
  pub few : 1 < p.layout → n ≤ 8
  pub stream : p.layout ≡ 2 → n < p.size

pub record Few (out : List ℕ) (at n : ℕ) : Type 0 where
  pub few : n ≤ 2
  pub room : at + n ≤ length out

-- a header has room
pub record Headed (p : Plan) (out : List ℕ) : Type 0 where
  pub len-narrow : p.lenwidth ≤ 2
  pub ctr-narrow : p.ctrwidth ≤ 2
  pub inside : p.lenwidth + p.ctrwidth ≤ p.size
  pub free_most : p.size ≤ p.lenwidth + p.ctrwidth + 2
  pub room : p.size ≤ length out

-- a message that ends there
pub record Tailing (p : Plan) (out : List ℕ) (end : ℕ) : Type 0 where
  pub formed : Formed p
  pub some : 1 ≤ end
  pub reached : p.layout ≤ 2 → p.align ≤ end
  pub room : end ≤ length out

-- a packet, the first n bytes of those left, whose message fits into the output; and those left would fit behind its header
pub record Fitting (p : Plan) (out left : List ℕ) (n : ℕ) : Type 0 where
  pub formed : Formed p
  pub there : n ≤ length left
  pub small : n < 65536
  pub room : whole_of p n ≤ length out
  pub all : p.size + length left ≤ length out

-- .. from a place on, behind the bytes passed over from q on
pub record Passing (p : Plan) (out : List ℕ) (q from : ℕ) (left : List ℕ) (n : ℕ) : Type 0 where
  pub skipping : Skipping p out q (from - q)
  pub on : q ≤ from
  pub there : n ≤ length left
  pub small : n < 65536
  pub room : from + whole_of p n ≤ length out
  pub all : from + p.size + length left ≤ length out
