-- A text that is put at the front of an output is what is reported.
use Prim.Native.Nat.{ℕ, ◌≤◌}
use native.Mathlib.Omega.{arith}
use mathlib.Core.Path.{◌≡◌, sym, ◌∙◌}
use mathlib.Core.List.{List}
use lib.ListN.{length}
use Rattle.spelling.specs.Put.{Puts, Reports}

pub tells : {old text new : List ℕ} {n r : ℕ} → Puts old 0 text n new r → n ≤ length old → Reports old text new r
tells p h = record { bytes = p.bytes; count = omega (arith, p.next); inside = omega (arith, p.most, p.long) }

pub tells_so : {old text other new : List ℕ} {r : ℕ} → Reports old text new r → text ≡ other → Reports old other new r
tells_so k e = rw (← e) k

-- any two results that the contract allows are equal
pub one_report : {old text new past : List ℕ} {r u : ℕ} → Reports old text new r → Reports old text past u → (r ≡ u) × (new ≡ past)
one_report k l = (k.count ∙ sym l.count, k.bytes ∙ sym l.bytes)
