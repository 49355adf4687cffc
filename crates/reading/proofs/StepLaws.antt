-- The step's answers are what is seen.
use Prim.Native.Nat.{ℕ, ◌+◌, min}
use native.Mathlib.Omega.{arith}
use mathlib.Core.Path.{◌≡◌, sym, ◌∙◌}
use mathlib.Core.Bool.{Bool, true, false, cond, not, ◌&&◌, ◌||◌}
use mathlib.Core.List.{List}
use lib.ListN.{length}
use lib.Dec.{leb, ltb, eqb}
use borrow.Author.Rules.{rules}
use borrow.Author.Tests.{leb-true, ne_eqb}
use Rattle.layout.specs.Leaf.{Within, Number}
use Rattle.packet.specs.declared.At.{At}
use Rattle.packet.specs.declared.Found.{Found}
use Rattle.packet.specs.Seen.{Seen}
use Rattle.plan.specs.declared.Plan.{Plan}
use Rattle.plan.specs.Place.{header_at, on_at, Beyond}
use Rattle.reading.specs.Step.{bare_seen, past_at, message_by, len, seen}
use Rattle.reading.specs.Loops.{Standing, Header, Len, FoundAs, Headed}
use Rattle.reading.proofs.ViewLaws.{says}

-- where a header fits LEN is read, and where none does it is 0
module _ {tests : Bool} {p : Plan} {t : List ℕ} {h end : ℕ} (k : Header tests p t h end) {b : Bool} (e : b ≡ (not tests || leb (h + p.size) end)) where
  pub len-within : b ≡ true → Within t h p.lenwidth
  len-within f = let i = k.there (sym e ∙ f) in search rules

  pub len-said : b ≡ true → {n : ℕ} → Number t h p.lenwidth n → Len tests p t h end n
  len-said f n = record { is = rw (sym e ∙ f) n.is; small = n.small }

  pub len-none : b ≡ false → Len tests p t h end 0
  len-none f = record { is = rw (sym e ∙ f); small = omega arith }

module _ {p : Plan} {t : List ℕ} {a : At} where
  module _ (s : Standing p t a) {h rest : ℕ} (e : Beyond (header_at p a.q) a.q h) (r : rest ≡ min a.end (length t)) where
    pub some-header : Header true p t h rest
    some-header = record { sized = s.sized; near = omega (arith, s.sized.cut_most); there = λ y. omega (arith, leb-true (h + p.size) rest y) }

    module _ {n : ℕ} (l : Len true p t h rest n) where
      len_is : n ≡ len p t a
      len_is = l.is ∙ rw (e.is, r)

      pub headed : (n ≡ 0 → ⊥) → Headed p t a h rest n
      headed z = let i = len_is in let h = says p t a (λ y. z (len_is ∙ y)) in search rules

      pub seen_bare : n ≡ 0 → {r : Seen} → r ≡ bare_seen p (length t) a h → r ≡ seen p t a
      unfolding seen
      seen_bare i b = b ∙ rw (e.is, sym len_is ∙ i)

  pub seen-message : {h rest n : ℕ} → Headed p t a h rest n → {next : ℕ} → Beyond (past_at p (h + p.size + n)) (h + p.size + n) next
      → {x : Bool} → x ≡ (not (eqb p.layout 3) && ltb p.longest n) → {limit : ℕ} → limit ≡ cond (ltb p.layout 2) rest (length t)
      → {f : Found} → FoundAs p t h n f → {b : At} → b ≡ on_at p a next
      → {r : Seen} → r ≡ message_by x (ltb limit next) h f b → r ≡ seen p t a
  unfolding seen
  seen-message g j e l f o i =
      let z = ne_eqb (len p t a) 0 (omega (arith, g.says.some)) in
      i ∙ rw (e, l, o, j.is, f.is, g.rest-is, g.len_is, g.head-is, z)

pub ruleset steps = (len-within, len-said, len-none, some-header, headed, seen_bare, seen-message)
