-- The two tests, one behind the other.
use Rattle.passing.proofs.PassingLaws.{sign_begin, sign_end}
use Rattle.passing.proofs.sign_of.Goals as goal

pub returns-then-same : goal.returns-then-same
returns-then-same c = sign_begin c.args.word.now c.same.ensures c.if-same.true

pub returns-then-same-2 : goal.returns-then-same-2
returns-then-same-2 c = sign_end c.args.word.now c.same.ensures c.same-2.ensures c.if-same-2.true
