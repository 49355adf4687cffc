-- A plan, in the layout's terms. What follows from a sound setting stands here in numbers, so that a proof finds it by itself.
use Rattle.std.specs.Prelude.{Option, ℕ, ◌+◌, ◌%◌, ◌<◌, ◌≤◌, ◌≡◌, true}
use Rattle.layout.specs.declared.Shape.{Shape}
use Rattle.layout.specs.Field.{shape, place, width, Name.LEN, Name.CTR}
use Rattle.layout.specs.Multiple.{Aligned}
use Rattle.usb.specs.declared.Setting.{Setting}
use Rattle.usb.specs.Setting.{fields, H, sound}
use Rattle.plan.specs.declared.Plan.{Plan}
use Rattle.plan.specs.Plan.{planned}
use Rattle.plan.specs.Plan.{plan_of as joined}

-- the setting of a plan
abbrev pub setting : Plan → Setting
setting p =
    record {
      header = p.header;
      packing = p.layout;
      align = p.align;
      datapacket = p.datapacket;
      longest = p.longest;
      direction = p.direction;
    }

abbrev pub plan_of : Setting → Shape → Plan
plan_of s k = joined s.packing s.header s.align s.datapacket s.longest s.direction 0 k

abbrev pub planned_of : Setting → Option Plan
planned_of s = planned (sound s) (plan_of s (shape (fields s)))

-- the bytes of LEN in a setting's header
pub record LenOf (s : Setting) (w : ℕ) : Type 0 where
  pub is : w ≡ width LEN (fields s)
  pub narrow : w ≤ 2

-- a sound setting, and its header's numbers
pub record Ready (p : Plan) : Type 0 where
  pub ok : sound (setting p) ≡ true
  pub size : p.size ≡ H (setting p)
  pub lenwidth : p.lenwidth ≡ width LEN (fields (setting p))
  pub ctrwidth : p.ctrwidth ≡ width CTR (fields (setting p))
  pub aligned : Aligned p.align
  pub cut-least : 8 ≤ p.datapacket
  pub cut_most : p.datapacket ≤ 1024
  pub longest-most : p.longest < 65536
  pub size-least : 1 ≤ p.size
  pub size-most : p.size ≤ 4
  pub len-narrow : p.lenwidth ≤ 2
  pub ctr-narrow : p.ctrwidth ≤ 2
  -- LEN stands first, and CTR behind it
  pub len-first : place LEN (fields (setting p)) ≡ 0
  pub ctr-next : 0 < p.ctrwidth → place CTR (fields (setting p)) ≡ p.lenwidth
  pub apart : p.lenwidth + p.ctrwidth ≤ p.size
  -- which has as many bytes, or none: a CTR of one byte goes with a LEN of one; with both the header is full
  pub len-least : 1 ≤ p.lenwidth
  pub ctr-most : p.ctrwidth ≤ p.lenwidth
  pub ctr-odd : p.ctrwidth % 2 + p.lenwidth ≤ 2
  pub size_twice : p.size ≤ p.lenwidth + p.lenwidth
  pub layout : p.layout < 3
  pub eights : p.datapacket % 8 ≡ 0
  pub way : p.direction < 2
