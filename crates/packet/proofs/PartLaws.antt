-- A part that lies inside its input has as many bytes as were asked for; one that does not is refused with 5 at its place, and is empty.
use Rattle.std.proofs.Common.{◌≡◌, ℕ, ◌+◌, ◌<◌, ◌≤◌, List, [], length, take, drop, refl, arith, length-drop, length-take, le-leb}
use borrow.Author.Tests.{lt-leb}
use Rattle.packet.specs.Part.{part_of, check_of, check_number, check_place}

module _ (t : List ℕ) (p n : ℕ) where
  pub part_inside : p + n ≤ length t → (check_number (check_of t p n) ≡ 0) × (part_of t p n ≡ take n (drop p t)) × (length (part_of t p n) ≡ n)
  part_inside l = rw (le-leb (p + n) (length t) l) (refl, refl, simp (length-take, length-drop) (omega arith))

  pub part_outside : length t < p + n → (check_number (check_of t p n) ≡ 5) × (check_place (check_of t p n) ≡ p) × (part_of t p n ≡ [])
  part_outside l = rw (lt-leb (p + n) (length t) l) (refl, refl, refl)
