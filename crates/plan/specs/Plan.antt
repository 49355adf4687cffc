-- A plan of a setting's numbers and of its header's, for every transport.
use Rattle.std.specs.Prelude.{ℕ, ◌+◌, ◌%◌, ◌<◌, ◌≤◌, ◌≡◌, Bool, cond, eqb, Option, Some, None}
use Rattle.layout.specs.declared.Shape.{Shape}
use Rattle.layout.specs.Multiple.{Aligned}
use Rattle.packet.specs.Limit.{most_bytes}
use Rattle.plan.specs.declared.Plan.{Plan}

abbrev pub plan_of : (layout header align datapacket longest direction node : ℕ) → Shape → Plan
plan_of layout header align datapacket longest direction node k =
    record {
      layout = layout;
      header = header;
      align = align;
      datapacket = datapacket;
      longest = longest;
      direction = direction;
      node = node;
      size = k.size;
      lenwidth = k.lenwidth;
      ctrwidth = k.ctrwidth;
    }

-- the plan of a setting that is sound, or that it is not
abbrev pub planned : (sound : Bool) → Plan → Option Plan
planned sound p = cond sound (Some p) None

-- the most bytes of an input or an output, where each packet has a header of its own: a datagram's are those of its one data packet
abbrev pub most_of : Plan → ℕ
most_of p = cond (eqb p.layout 4) p.datapacket most_bytes

-- what every plan's numbers keep to
pub record Sized (p : Plan) : Type 0 where
  pub aligned : Aligned p.align
  pub size-least : 1 ≤ p.size
  pub size-most : p.size ≤ 4
  pub len-narrow : p.lenwidth ≤ 2
  pub ctr-narrow : p.ctrwidth ≤ 2
  pub fields : p.lenwidth + p.ctrwidth ≤ p.size
  pub cut-least : 8 ≤ p.datapacket
  pub cut_most : p.datapacket ≤ 1472
  pub way : p.direction < 2

-- the scalars by which a loop is told its case are those of a plan
pub record Cased (layout lenwidth ctrwidth size align : ℕ) (p : Plan) : Type 0 where
  pub layout_is : layout ≡ p.layout
  pub lenwidth-is : lenwidth ≡ p.lenwidth
  pub ctrwidth-is : ctrwidth ≡ p.ctrwidth
  pub size_is : size ≡ p.size
  pub align_is : align ≡ p.align

-- what a plan keeps to where each packet has a header of its own: USB's and UDP's
pub record Messages (p : Plan) : Type 0 where
  pub sized : Sized p
  pub longest-most : p.longest < 65536
  -- CTR has as many bytes as LEN, or none: a CTR of one byte goes with a LEN of one; with both the header is full
  pub len-least : 1 ≤ p.lenwidth
  pub ctr-most : p.ctrwidth ≤ p.lenwidth
  pub ctr-odd : p.ctrwidth % 2 + p.lenwidth ≤ 2
  pub size_twice : p.size ≤ p.lenwidth + p.lenwidth
  pub eights : p.datapacket % 8 ≡ 0
  -- data packets, or a datagram
  pub layout-most : p.layout ≤ 4
  pub datagram : 2 < p.layout → Cased 4 2 2 4 1 p
