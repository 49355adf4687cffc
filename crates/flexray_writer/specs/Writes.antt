-- What the functions above the loops ask and tell.
use Rattle.std.specs.Prelude.{ℕ, ◌+◌, ◌%◌, ◌<◌, ◌≤◌, ◌≡◌, true, false, List, length}
use Rattle.layout.specs.Field.{values, puts}
use Rattle.packet.specs.Counter.{holds}
use Rattle.packet.specs.Limit.{most_lengths, most_bytes}
use Rattle.packet.specs.Packets.{sum}
use Rattle.plan.specs.declared.Plan.{Plan}
use Rattle.plan.specs.Plan.{Cased}
use Rattle.rows.specs.Counters.{Said}
use Rattle.flexray.specs.declared.Setting.{Setting}
use Rattle.flexray.specs.Setting.{fields, most_ceiling}
use Rattle.flexray.specs.Writing.{miscounted}
use Rattle.flexray_plan.specs.Plan.{setting, further_of, Ready}
use Rattle.sizing.specs.Sizes.{misfit_at, reach, first, Sizable}
use Rattle.writing.specs.declared.Begin.{Begin}
use Rattle.writing.specs.Puts.{Writable}

-- a plan of further packets, whose header is a LEN byte; and lengths from a place on
pub record Sizing (p : Plan) (q : ℕ) (ns : List ℕ) : Type 0 where
  pub cased : Cased 3 1 0 1 p.align p
  pub sizable : Sizable p q ns

-- .. and packets to be put
pub record Putting (p : Plan) (b : Begin) (bs ns : List ℕ) (n : ℕ) : Type 0 where
  pub cased : Cased 3 1 0 1 p.align p
  pub writable : Writable p b bs ns n

---- The header and the evening byte --------------------------------------------------------------------------------------------

-- the header of a frame whose first packet has n bytes
abbrev pub head_bytes : Setting → ℕ → ℕ → ℕ → List ℕ
head_bytes s free c n = puts (values s.node n c) free (fields s)

-- the header fits into the output
pub record Leading (p : Plan) (out : List ℕ) : Type 0 where
  pub ready : Ready p
  pub room : p.size ≤ length out

-- the last packet ends at e, and the output has room for the byte behind it
pub record Evening (p : Plan) (out : List ℕ) (e : ℕ) : Type 0 where
  pub ready : Ready p
  pub small : e ≤ most_ceiling
  pub room : e + e % 2 ≤ length out

---- All packets ----------------------------------------------------------------------------------------------------------------

-- the setting is right, and packets are put from the header's last byte on
pub record Begun (p : Plan) (b : Begin) : Type 0 where
  pub ready : Ready p
  pub last : b.q + 1 ≡ p.size

-- .. the counter is right, and there are as many lengths as a frame takes
pub record Counted (p : Plan) (b : Begin) (ns : List ℕ) : Type 0 where
  pub begun : Begun p b
  pub held : holds p.ctrwidth b.ctr ≡ true
  pub counts : miscounted (setting p) ns ≡ false
  pub some : 0 < length ns
  pub few : length ns ≤ most_lengths
  pub said : Said p.ctrwidth b.ctr

-- .. their sum is that of the bytes, and all fit: the last packet ends at a place
pub record Fitted (p : Plan) (b : Begin) (bs ns : List ℕ) (end : ℕ) : Type 0 where
  pub counted : Counted p b ns
  pub same : sum ns ≡ length bs
  pub fit : misfit_at (further_of p) (first b.q) ns ≡ length ns
  pub behind : end ≡ (reach (further_of p) (first b.q) ns).q
  pub small : end ≤ most_ceiling

-- .. and n bytes have room for the frame
pub record Roomy (p : Plan) (b : Begin) (bs ns : List ℕ) (end n : ℕ) : Type 0 where
  pub fitted : Fitted p b bs ns end
  pub room : end + end % 2 ≤ n
  pub most : end + end % 2 ≤ most_bytes
  pub head : p.size ≤ n
