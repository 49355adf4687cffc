-- What writing asks of a plan holds where each packet has a header of its own; and the case that each call says by literals.
use Prim.Native.Nat.{ℕ}
use native.Mathlib.Omega.{arith}
use mathlib.Core.Path.{◌≡◌, sym}
use borrow.Author.Rules.{rules}
use Rattle.plan.specs.declared.Plan.{Plan}
use Rattle.plan.specs.Plan.{Cased, Messages}
use Rattle.sizing.specs.Places.{Formed}

module _ {p : Plan} (k : Messages p) where
  pub formed : Formed p
  formed =
      record {
        sized = k.sized;
        longest-most = k.longest-most;
        layout-most = k.layout-most;
        free_most = omega (arith, k.size_twice, k.sized.len-narrow);
        eights = λ _. k.eights;
        unaligned = λ e. sym (k.datagram (omega arith)).align_is;
      }

  module _ {l : ℕ} (e : l ≡ p.layout) where
    pub counted_bytes : p.ctrwidth ≡ 1 → Cased l 1 1 2 p.align p
    counted_bytes f = search rules

    pub counted_words : p.ctrwidth ≡ 2 → Cased l 2 2 4 p.align p
    counted_words f = search rules

    module _ (f : p.ctrwidth ≡ 1 → ⊥) (g : p.ctrwidth ≡ 2 → ⊥) where
      pub bytes_alone : p.lenwidth ≡ 1 → Cased l 1 0 p.size p.align p
      bytes_alone h = search rules

      pub words_alone : (p.lenwidth ≡ 1 → ⊥) → Cased l 2 0 p.size p.align p
      words_alone h = search rules

  pub in_datagram : {l : ℕ} → l ≡ p.layout → l ≡ 4 → Cased l 2 2 4 1 p
  in_datagram e f = let k = k.datagram (omega arith) in rw f k

pub ruleset cases = (in_datagram, counted_bytes, counted_words, bytes_alone, words_alone)
