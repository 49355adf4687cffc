-- The rows and the state.
use Prim.Native.Nat.{◌*◌}
use lib.ListN.{length}
use Rattle.packet.specs.declared.Counter.{Counter}
use Rattle.rows.specs.Fill.{filling}
use Rattle.reading.specs.Reads.{turns, reads}
use Rattle.reading.proofs.LoopLaws.{Giving}
use Rattle.reading.proofs.fill_loop.Given as goal

abbrev pub invariant-loop-j : goal.invariant-loop-j
invariant-loop-j g l =
    let first : Counter = record { known = l.initial.known; expected = l.initial.expected } in
    let c : Counter = record { known = l.known; expected = l.expected } in
    let given = filling l.p.direction l.p.ctrwidth l.initial.rows (5 * l.before) first (reads l.p l.t l.initial.a) in
    Giving l.p l.t given (length l.initial.rows) l.k l.a l.j c l.rows

abbrev pub decreases-loop-j : goal.decreases-loop-j
decreases-loop-j g l = turns l.t l.a
