-- A turn that goes on has read at least one byte and no more than the rest of the buffer, whose length stays.
use Rattle.std.proofs.Common.{length, ◌-◌, ◌≤◌}
use Rattle.standard.proofs.read_input.Given as goal

abbrev pub invariant-loop-n : goal.invariant-loop-n
invariant-loop-n l = l.n ≤ length l.buffer

abbrev pub decreases-loop-n : goal.decreases-loop-n
decreases-loop-n l = length l.initial.buffer - l.n
