-- A plan, in the layout's terms. What follows from a sound setting stands here in numbers, so that a proof finds it by itself.
use Rattle.std.specs.Prelude.{Option, ℕ, ◌+◌, ◌%◌, ◌<◌, ◌≤◌, ◌≡◌, Bool, true, ◌&&◌, ◌||◌, ltb, eqb}
use Rattle.layout.specs.declared.Shape.{Shape}
use Rattle.layout.specs.Field.{shape, place, width, Name.NAX, Name.LEN, Name.CTR}
use Rattle.layout.specs.Multiple.{Aligned}
use Rattle.flexray.specs.declared.Entry.{Entry}
use Rattle.flexray.specs.declared.Setting.{Setting}
use Rattle.flexray.specs.Setting.{header, fields, H, L, W, sound, most_ceiling}
use Rattle.flexray.specs.Setting.{start as start_of}
use Rattle.flexray.specs.Table.{entry}
use Rattle.plan.specs.declared.Plan.{Plan}
use Rattle.plan.specs.Plan.{planned}
use Rattle.plan.specs.Plan.{plan_of as joined}

-- the setting of a plan
abbrev pub setting : Plan → Setting
setting p =
    record {
      node = p.node;
      direction = p.direction;
      ceiling = p.datapacket;
      header = p.header;
      align = p.align;
    }

-- a frame is a data packet, and LEN, a byte, says up to 255
abbrev pub plan_of : Setting → Shape → Plan
plan_of s k = joined 3 s.header s.align s.ceiling 255 s.direction s.node k

abbrev pub planned_of : Setting → Option Plan
planned_of s = planned (sound s) (plan_of s (shape (fields s)))

-- the plan of the packets behind a frame's first: the header of each is its LEN, a byte, and none carries a counter
abbrev pub further_of : Plan → Plan
further_of p =
    record {
      layout = 3;
      header = p.header;
      align = p.align;
      datapacket = p.datapacket;
      longest = 255;
      direction = p.direction;
      node = p.node;
      size = 1;
      lenwidth = 1;
      ctrwidth = 0;
    }

-- an alignment is one of a header's, by the least and the most
abbrev pub goes : ℕ → Entry → Bool
goes a h = ltb 0 h.least && (eqb a h.least || eqb a h.most)

-- what a setting's header comes to
pub record EntryOf (s : Setting) (h : Entry) : Type 0 where
  pub is : h ≡ entry (header s.header)

-- a sound setting, and its header's numbers
pub record Ready (p : Plan) : Type 0 where
  pub ok : sound (setting p) ≡ true
  pub size : p.size ≡ H (setting p)
  pub lenwidth : p.lenwidth ≡ L (setting p)
  pub ctrwidth : p.ctrwidth ≡ W (setting p)
  -- NAX is the header's first byte
  pub naxat : place NAX (fields (setting p)) ≡ 0
  pub naxwidth : width NAX (fields (setting p)) ≡ 1
  pub node : p.node < 256
  pub aligned : Aligned p.align
  pub ceiling-least : 8 ≤ p.datapacket
  pub ceiling-most : p.datapacket ≤ most_ceiling
  pub even : p.datapacket % 2 ≡ 0
  pub size-least : 1 ≤ p.size
  pub size-most : p.size ≤ 4
  pub len-narrow : p.lenwidth ≤ 1
  pub ctr-narrow : p.ctrwidth ≤ 1
  -- CTR stands behind NAX, and LEN last
  pub ctr_second : 0 < p.ctrwidth → place CTR (fields (setting p)) ≡ 1
  pub len-last : 0 < p.lenwidth → place LEN (fields (setting p)) + 1 ≡ p.size
  -- NAX, CTR and LEN have room, and the first packet starts at a multiple of the alignment
  pub apart : 1 + p.ctrwidth + p.lenwidth ≤ p.size
  pub whole : p.size % p.align ≡ 0
  pub way : p.direction < 2

-- where a packet starts behind one that ends at e
pub record Started (a e r : ℕ) : Type 0 where
  pub is : r ≡ start_of a e
  pub more : e < r
  pub small : r ≤ e + 8
