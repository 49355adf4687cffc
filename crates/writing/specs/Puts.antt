-- The bytes of a list of messages, and what putting them asks and tells.
use Rattle.std.specs.Prelude.{ℕ, ◌-◌, ◌<◌, ◌≤◌, ◌≡◌, true, List, [], ◌∷◌, ◌++◌, length}
use Rattle.std.proofs.lemmas.List.Edits.{sets}
use Rattle.packet.specs.declared.At.{At}
use Rattle.packet.specs.Counter.{holds, next, later}
use Rattle.packet.specs.Limit.{most_lengths, most_bytes}
use Rattle.packet.specs.Packets.{sum, packets}
use Rattle.plan.specs.declared.Plan.{Plan}
use Rattle.sizing.specs.Places.{Formed, spot}
use Rattle.sizing.specs.Sizes.{misfit_at, reach, first}
use Rattle.writing.specs.declared.Begin.{Begin}
use Rattle.writing.specs.Bytes.{rest_bytes, message_bytes}

-- what is passed over from a place on to where a packet of n bytes comes to stand
abbrev pub passed : Plan → (free : ℕ) → At → (n : ℕ) → List ℕ
passed p free a n = rest_bytes p free ((spot p a n).from - a.q)

-- the messages of these packets from a place on; the first has counter c
unfoldable pub bytes_from : Plan → (free : ℕ) → At → (c : ℕ) → List (List ℕ) → List ℕ
bytes_from p free a c [] = []
bytes_from p free a c (b ∷ bs) =
    passed p free a (length b)
    ++ (message_bytes p free c b ++ bytes_from p free (spot p a (length b)).next (next p.ctrwidth c) bs)

-- packets of the lengths ns in the joined bytes bs, which fit, and an output of n bytes that has room for their messages
pub record Writable (p : Plan) (b : Begin) (bs ns : List ℕ) (n : ℕ) : Type 0 where
  pub formed : Formed p
  pub held : holds p.ctrwidth b.ctr ≡ true
  pub few : length ns ≤ most_lengths
  pub sum : sum ns ≡ length bs
  pub fit : misfit_at p (first b.q) ns ≡ length ns
  pub room : (reach p (first b.q) ns).q ≤ n
  pub most : (reach p (first b.q) ns).q ≤ most_bytes
  -- data packets are written from their start on
  pub start : p.layout < 3 → b.q ≡ 0

-- they are written, and the counter behind them
pub record Wrote (p : Plan) (b : Begin) (bs ns old new : List ℕ) (r : ℕ) : Type 0 where
  pub bytes : new ≡ sets old b.q (bytes_from p b.free (first b.q) b.ctr (packets ns bs))
  pub counter : r ≡ later p.ctrwidth (length ns) b.ctr
