-- What io spells is the decimal text of the definitions; text that is put behind text.
use Prim.Native.Nat.{ℕ, zero, suc, ◌+◌, ◌*◌, ◌-◌, ◌/◌, ◌%◌, ◌^◌, ◌<◌, ◌≤◌}
use borrow.Author.Rules.{rules}
use native.Mathlib.Omega.{arith}
use native.Mathlib.Nat.{pow-suc, one-le-pow}
use native.Mathlib.Numerals.{unary_clauses}
use mathlib.Core.Path.{◌≡◌, refl, sym, ap, ◌∙◌}
use mathlib.Core.List.{List, [], ◌∷◌, ◌++◌}
use lib.ListN.{length, set, take, length-append}
use lib.Seq.{sets, length-sets}
use borrow.Author.Tests.{lt-ltb, le-ltb}
use Rattle.io.specs.Counts.{IsPrefixLen}
use Rattle.io.specs.Digits.{hex_digit_ascii, last_digits, IsDigitCount}
use Rattle.layout.proofs.RunLaws.{sets-append}
use Rattle.spelling.specs.declared.Page.{Page}
use Rattle.spelling.specs.Page.{Adds}
use Rattle.spelling.specs.Text.{spelled, decimal, word}
use Rattle.spelling.specs.Put.{Spelt, Puts}

---- A number -------------------------------------------------------------------------------------------------------------------

digit : (n : ℕ) → hex_digit_ascii (n % 10) ≡ 48 + n % 10
digit n = rw (lt-ltb (n % 10) 10 (omega arith))

-- a number that has a digit before the last: what is before the last has one digit less
module _ {n k : ℕ} (f : IsDigitCount 10 1 n (suc (suc k))) where
  least : 10 ^ k * 10 ≤ n
  least = simp unary_clauses at (f.2 (omega arith))

  tens : 10 ≤ n
  tens = omega (arith, least, one-le-pow k 10 (omega arith))

  fewer : (d : ℕ) → n < 10 ^ suc d → n / 10 < 10 ^ d
  fewer d h = omega (arith, pow-suc 10 d)

  shorter : IsDigitCount 10 1 (n / 10) (suc k)
  shorter =
      let b : n / 10 < 10 ^ suc k = fewer (suc k) f.1 in
      let c : 1 < suc k → 10 ^ (suc k - 1) ≤ n / 10 = λ _. simp unary_clauses (omega (arith, least)) in
      (omega arith, b, c)

-- so many digits are enough, and they are the fewest
spells : (most k n : ℕ) → n < 10 ^ suc most → IsDigitCount 10 1 n k → last_digits 10 k n ≡ spelled most n
unfolding spelled
spells most zero n h f = absurd (omega arith)
spells zero (suc zero) n h f = rw (digit n)
spells zero (suc (suc k)) n h f = absurd (omega (arith, tens f))
spells (suc most) (suc zero) n h f =
    let l : n < 10 = f.1 in
    rw (digit n, lt-ltb n 10 l)
spells (suc most) (suc (suc k)) n h f =
    rw (digit n, le-ltb n 10 (tens f), spells most (suc k) (n / 10) (fewer f _ h) (shorter f))

below : (n : ℕ) → n < 10 ^ suc n
below zero = omega arith
below (suc n) = omega (arith, below n, pow-suc 10 (suc n))

spells_decimal : (k n : ℕ) → IsDigitCount 10 1 n k → last_digits 10 k n ≡ decimal n
unfolding decimal
spells_decimal k n f = spells n k n (below n) f

-- the fewest digits of a number that so many hold
few-digits : (d k n : ℕ) → n < 10 ^ suc d → IsDigitCount 10 1 n k → k ≤ suc d
few-digits d zero n h f = omega arith
few-digits d (suc zero) n h f = omega arith
few-digits zero (suc (suc k)) n h f = absurd (omega (arith, tens f))
few-digits (suc d) (suc (suc k)) n h f = omega (arith, few-digits d (suc k) (n / 10) (fewer f _ h) (shorter f))

-- what io spelled
pub spelt : {n : ℕ} {text : List ℕ} {k : ℕ} → n < 4294967296 → IsDigitCount 10 1 n k → IsPrefixLen k text → take k text ≡ last_digits 10 k n
    → Spelt n text k
spelt {n} {text} {k} h f c e =
    record { digits = e ∙ spells_decimal k n f; count = c.1; inside = c.0; few = few-digits 9 k n (omega arith) f }

-- .. is put with a byte behind it, where the first k bytes were lent from 0 on
pub word-put : (n behind : ℕ) {old : List ℕ} {at m : ℕ} {text mid : List ℕ} {k a : ℕ} → Spelt n text k → Puts old at (take (k - 0) text) m mid a
    → Puts old at (word n behind) 11 (set mid a behind) (a + 1)
word-put n behind {old} {at} {text = text} {mid} {k} {a} s p =
    let d : List ℕ = decimal n in
    let z : k - 0 ≡ k = omega arith in
    let t : take (k - 0) text ≡ d = rw (z, s.digits) in
    let e : a ≡ at + length d = rw t at p.next in
    let f : length d ≡ k = ap length (sym s.digits) ∙ sym s.count in
    let m : mid ≡ sets old at d = rw t at p.bytes in
    let b : set mid a behind ≡ sets old at (word n behind) = rw (m, e) (sym (sets-append d (behind ∷ []) old at)) in
    record {
      bytes = b;
      next = omega (arith, e, length-append d (behind ∷ []));
      most = omega (arith, e, f, s.few);
      long = ap length b ∙ length-sets old at (word n behind);
    }

---- Text behind text -----------------------------------------------------------------------------------------------------------

pub bytes-put : {old : List ℕ} {at : ℕ} {v new : List ℕ} → new ≡ sets old at v → Puts old at v (length v) new (at + length v)
bytes-put {old} {at} {v} x = record { bytes = x; next = refl; most = omega arith; long = ap length x ∙ length-sets old at v }

pub puts_then : {old : List ℕ} {at : ℕ} {v : List ℕ} {m : ℕ} {mid : List ℕ} {a : ℕ} {w : List ℕ} {n : ℕ} {new : List ℕ} {r : ℕ}
    → Puts old at v m mid a → Puts mid a w n new r → Puts old at (v ++ w) (m + n) new r
puts_then {old} {at} {v} {w = w} p q =
    record {
      bytes = q.bytes ∙ rw (p.bytes, p.next) (sym (sets-append v w old at));
      next = omega (arith, length-append v w, p.next, q.next);
      most = omega (arith, p.most, q.most);
      long = q.long ∙ p.long;
    }

-- .. on a page
pub adds_then : {p : Page} {v : List ℕ} {m : ℕ} {q : Page} {w : List ℕ} {n : ℕ} {r : Page} → Adds p v m q → Adds q w n r
    → Adds p (v ++ w) (m + n) r
adds_then a b = record { same = b.same ∙ a.same; puts = puts_then a.puts b.puts }

pub ruleset spellings = (rules, spelt, word-put, bytes-put)
