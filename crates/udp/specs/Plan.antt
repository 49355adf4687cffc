-- The plan of a setting: layout 4, LEN and CTR words, alignment 1, and the longest datagram as its one data packet.
use Rattle.layout.specs.Field.{shape}
use Rattle.plan.specs.declared.Plan.{Plan}
use Rattle.plan.specs.Plan.{plan_of as joined}
use Rattle.udp.specs.declared.Setting.{Setting}
use Rattle.udp.specs.Setting.{fields, most_datagram}

abbrev pub plan_of : Setting → Plan
plan_of s = joined 4 4 1 most_datagram s.longest s.direction 0 (shape fields)
