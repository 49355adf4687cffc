use native.Mathlib.Omega.{arith}
use lib.ListN.{length-set}
use Rattle.layout.proofs.LeafLaws.{no_width, put-none, put_one, put_two}
use Rattle.layout.proofs.put_field.Goals as goal

pub bounds-out-at-in-2-2 : goal.bounds-out-at-in-2-2
bounds-out-at-in-2-2 c = simp length-set (omega arith)

pub returns-in-1 : goal.returns-in-1
returns-in-1 c = put_one _ _ _ _ c.in-1.is

pub returns-in-2 : goal.returns-in-2
returns-in-2 c = put_two _ _ _ _ c.in-2.is

pub returns-in_default : goal.returns-in_default
returns-in_default c =
    let ((u, no-1), no-2) = c.in_default.in_default-own.rest in
    put-none _ _ _ _ (no_width _ c.requires.width no-1 no-2)
