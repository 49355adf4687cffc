-- The mask is one below a power of two, so it leaves the remainder; what is taken off the sum leaves the multiple next above x.
use native.Mathlib.Omega.{arith}
use lib.Bits.{and_le_l}
use Rattle.layout.proofs.MultipleLaws.{aligned_power, masked}
use Rattle.layout.proofs.rounded.Goals as goal

pub overflow_sub-up : goal.overflow_sub-up
overflow_sub-up c = (aligned_power c.requires.aligned).low

pub overflow_add-y : goal.overflow_add-y
overflow_add-y c = record { fits = omega (arith, (aligned_power c.requires.aligned).high) }

pub overflow_sub-result : goal.overflow_sub-result
overflow_sub-result c = and_le_l _ _

pub returns : goal.returns
returns c = masked (aligned_power c.requires.aligned)
