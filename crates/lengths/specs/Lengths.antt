-- How lengths are refused of which one does not fit.
use Rattle.std.specs.Prelude.{ℕ, cond, List}
use Rattle.packet.specs.Writing.{Writing}
use Rattle.packet.specs.Answer.{Answer, write_refused}
use Rattle.packet.specs.Packets.{mismatched}

-- the refusal where the length at i does not fit
abbrev pub misfit_of : List ℕ → List ℕ → List ℕ → ℕ → Answer Writing
misfit_of ns bs out i = cond (mismatched ns bs) (write_refused out 2 0) (write_refused out 3 i)
