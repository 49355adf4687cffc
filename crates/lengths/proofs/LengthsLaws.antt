-- What a writer knows of its lengths when it refuses them, or does not.
use Prim.Native.Nat.{ℕ, ◌+◌, ◌<◌, ◌≤◌}
use mathlib.Core.Path.{◌≡◌, refl, ap, ◌∙◌}
use mathlib.Core.Bool.{Bool, true, false, cond}
use mathlib.Core.List.{List, [], ◌∷◌}
use lib.ListN.{length}
use Rattle.std.proofs.lemmas.List.Sums.{sum_by-cons}
use Rattle.std.specs.List.{sum as total}
use Rattle.layout.proofs.TestLaws.{passed, failed}
use Rattle.packet.specs.Answer as A
use Rattle.packet.specs.Answer.{write_refused}
use Rattle.packet.specs.Limit.{most_lengths}
use Rattle.packet.specs.Packets.{sum, mismatched, Mismatch.many as too_many, Mismatch.differs as sums_differ}
use Rattle.packet.proofs.PacketsLaws.{mismatch_tells, not_both}
use Rattle.packet.proofs.WeighLaws as L
use Rattle.packet.proofs.WeighLaws.{Call, answer_of}
use Rattle.lengths.specs.Lengths.{misfit_of}

-- the library's sum is ours
pub total_is : (ns : List ℕ) → total ns ≡ sum ns
total_is [] = refl
total_is (n ∷ ns) = sum_by-cons (λ x. x) n ns ∙ ap (λ k. n + k) (total_is ns)

module _ (ns bs : List ℕ) where
  pub many : most_lengths < length ns → mismatched ns bs ≡ true
  many h = passed (not_both ns bs) (mismatch_tells ns bs) (too_many h)

  pub differs : (sum ns ≡ length bs → ⊥) → mismatched ns bs ≡ true
  differs h = passed (not_both ns bs) (mismatch_tells ns bs) (sums_differ h)

  pub same : length ns ≤ most_lengths → sum ns ≡ length bs → mismatched ns bs ≡ false
  same h e = failed (not_both ns bs) (mismatch_tells ns bs) (record { few = h; same = e })

-- a length that does not fit is refused, unless the lengths differ from the bytes
pub unfit : (w : Call) (out ns bs : List ℕ) → A.Ready w.sound w.held → w.mismatch ≡ mismatched ns bs → {i : ℕ}
    → w.index ≡ i → i < w.count → answer_of w out ≡ misfit_of ns bs out i
unfit w out ns bs k e {i} f l = at (mismatched ns bs) e
  where
    at : (b : Bool) → w.mismatch ≡ b → answer_of w out ≡ cond b (write_refused out 2 0) (write_refused out 3 i)
    at true g = L.unmatched w out k g
    at false g = L.unfit w out k g f l
