use native.Mathlib.Omega.{arith}
use Rattle.rows.proofs.CounterLaws.{after_none, after_byte, after_two}
use Rattle.rows.proofs.after.Goals as goal

pub returns-in-1 : goal.returns-in-1
returns-in-1 c = after_byte c.requires c.in-1.is

pub returns-in-2 : goal.returns-in-2
returns-in-2 c = after_two c.requires c.in-2.is

pub returns-in_default : goal.returns-in_default
returns-in_default c = after_none c.requires (omega arith)
