-- Behind the last byte there is none.
use mathlib.Core.Path.{sym}
use lib.ListN.{get_or-eq_default}
use native.Mathlib.Omega.{arith}
use Rattle.finding.proofs.second.Goals as goal

pub returns : goal.returns
returns c = sym (get_or-eq_default c.args.t.now 0 (omega arith))
