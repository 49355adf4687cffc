-- What is answered by a plan, where each packet has a header of its own; and what the functions above the loops ask.
use Rattle.std.specs.Prelude.{ℕ, ◌+◌, ◌<◌, ◌≤◌, ◌≡◌, Bool, true, List, length, ltb}
use Rattle.packet.specs.declared.At.{At}
use Rattle.packet.specs.declared.Counter.{Counter}
use Rattle.packet.specs.Reading.{Reading}
use Rattle.packet.specs.Answer.{Answer, bounded, answered}
use Rattle.packet.specs.Counter.{valid}
use Rattle.packet.specs.Row.{table, behind}
use Rattle.plan.specs.declared.Plan.{Plan}
use Rattle.plan.specs.Plan.{most_of, Messages}
use Rattle.reading.specs.Loops.{Counted, Fillable}
use Rattle.reading.specs.Reads.{reads}

-- the place where an input starts
abbrev pub first : Plan → At
first p = record { q = 0; end = p.datapacket }

-- a plan of the kind that a function is told: of a datagram, or of data packets
pub record Kind (datagram : Bool) (p : Plan) : Type 0 where
  pub messages : Messages p
  pub is : datagram ≡ ltb 2 p.layout

-- an input that is to be judged; that is to be read into a table of n numbers, which has room for its k rows
pub record Begun (datagram : Bool) (p : Plan) (t : List ℕ) : Type 0 where
  pub kind : Kind datagram p
  pub start : Counted p t (first p) 0

pub record Roomy (datagram : Bool) (p : Plan) (t : List ℕ) (c : Counter) (k n : ℕ) : Type 0 where
  pub kind : Kind datagram p
  pub start : Fillable p t (first p) c 0 k n

-- the field widths of a plan of data packets are those that a function is told. With LEN and CTR the header is full
pub record Packed (lenwidth ctrwidth : ℕ) (p : Plan) : Type 0 where
  pub layout : p.layout < 3
  pub lenwidth-is : lenwidth ≡ p.lenwidth
  pub ctrwidth-is : ctrwidth ≡ p.ctrwidth
  pub small : lenwidth + ctrwidth ≤ 4
  pub full : 0 < ctrwidth → lenwidth + ctrwidth ≡ p.size

-- the answer by a plan: 1 for the state, 2 for the length, what is read, 4
unfoldable pub answer_by : Plan → List ℕ → Counter → List ℕ → Answer Reading
answer_by p t c rows =
    answered (table p.direction p.ctrwidth c) (behind p.ctrwidth c) rows (valid p.ctrwidth c)
    (bounded true (most_of p) (length t) (reads p t (first p)))

-- .. where the state and the length are right
abbrev pub answer_to : Plan → List ℕ → Counter → List ℕ → Answer Reading
answer_to p t c rows = answered (table p.direction p.ctrwidth c) (behind p.ctrwidth c) rows true (reads p t (first p))
