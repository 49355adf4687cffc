-- What the lines behind those that were passed say is what all say.
use Rattle.std.proofs.Common.{◌≡◌, map, drop}
use Rattle.keywords.specs.Saying.{listed}
use Rattle.keywords.proofs.listed.Given as goal

abbrev pub invariant-loop-name : goal.invariant-loop-name
invariant-loop-name l = listed (map (λ x. (x.0.now, x.1)) (drop l.name-index l.lines)) l.word ≡ listed (map (λ x. (x.0.now, x.1)) l.lines) l.word
