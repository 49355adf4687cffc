-- Sizing a list of messages: the first length that does not fit, and the place behind all of them.
use Rattle.std.specs.Prelude.{ℕ, suc, ◌-◌, ◌≤◌, min, ◌≡◌, Bool, cond, ◌&&◌, ◌||◌, List, [], ◌∷◌, length, eqb, ltb}
use Rattle.packet.specs.declared.At.{At}
use Rattle.packet.specs.Limit.{most_lengths}
use Rattle.packet.specs.Packets.{sum as sum_of}
use Rattle.plan.specs.declared.Plan.{Plan}
use Rattle.sizing.specs.declared.Sized.{Sized}
use Rattle.sizing.specs.Places.{Formed, spot}

-- the longest packet that fits by its length: in single and multiple packing its message fits a data packet
abbrev pub limit_of : Plan → ℕ
limit_of p = cond (ltb p.layout 2) (min p.longest (p.datapacket - p.size)) p.longest

-- a length 0, or over that, or, in a frame, of a packet that ends past it
abbrev pub misfit : Plan → At → ℕ → Bool
misfit p a n = (eqb n 0 || ltb (limit_of p) n) || (eqb p.layout 3 && ltb p.datapacket (spot p a n).next.q)

-- the index of the first length that does not fit, from a place on
unfoldable pub misfit_at : Plan → At → List ℕ → ℕ
misfit_at p a [] = 0
misfit_at p a (n ∷ ns) = cond (misfit p a n) 0 (suc (misfit_at p (spot p a n).next ns))

-- the place behind messages with packets of these lengths
unfoldable pub reach : Plan → At → List ℕ → At
reach p a [] = a
reach p a (n ∷ ns) = reach p (spot p a n).next ns

---- What sizing asks and tells -------------------------------------------------------------------------------------------------

-- the first place. In a frame it is the end of the packet before, or where the header ends but for its last byte
abbrev pub first : ℕ → At
first q = record { q = q; end = 0 }

pub record Sizable (p : Plan) (q : ℕ) (ns : List ℕ) : Type 0 where
  pub formed : Formed p
  pub few : length ns ≤ most_lengths
  pub near : q ≤ 4

-- all of the lengths are taken
pub record Whole (p : Plan) (q : ℕ) (ns : List ℕ) (r : Sized) : Type 0 where
  pub sum : r.sum ≡ sum_of ns
  pub behind : r.behind ≡ reach p (first q) ns

pub record SizedAs (p : Plan) (q : ℕ) (ns : List ℕ) (r : Sized) : Type 0 where
  pub taken : r.taken ≡ misfit_at p (first q) ns
  pub few : r.taken ≤ length ns
  pub all : r.taken ≡ length ns → Whole p q ns r
