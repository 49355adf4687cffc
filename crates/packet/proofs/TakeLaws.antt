-- Going through the lengths that a writer is given, one a turn: what is behind, and what is left of the lengths and of the joined bytes.
use Rattle.std.proofs.Common.{◌≡◌, ℕ, ◌+◌, ◌-◌, ◌<◌, ◌≤◌, List, [], ◌∷◌}
use Rattle.std.proofs.Common.{length, get_or, take, drop, arith, length-drop, drop_of_length-le, take_all, drop-drop}
use Rattle.layout.proofs.PartLaws.{drop-next, long}
use Rattle.packet.specs.Packets.{sum, packets}

-- the length at i, and that behind the last there is none
pub here : (ns : List ℕ) (i : ℕ) {n : ℕ} → i < length ns → n ≡ get_or ns i 0 → drop i ns ≡ n ∷ drop (i + 1) ns
here ns i l e = rw e (drop-next ns i l)

pub none_left : (ns : List ℕ) (i : ℕ) → length ns ≤ i → drop i ns ≡ []
none_left ns i l = drop_of_length-le ns {i = i} l

---- The packets ----------------------------------------------------------------------------------------------------------------

-- of the packets of lengths ns in the joined bytes bs those before i are taken, and the one at i starts at `from`
pub record Taking (bs ns : List ℕ) (from i : ℕ) : Type 0 where
  pub few : i ≤ length ns
  pub left : from + sum (drop i ns) ≡ length bs

pub taking : {bs ns : List ℕ} → sum ns ≡ length bs → Taking bs ns 0 0
taking e = record { few = omega arith; left = omega arith }

-- the joined bytes that are left are handed on
pub left_is : (bs : List ℕ) (from : ℕ) → take (length bs - from) (drop from bs) ≡ drop from bs
left_is bs from = take_all (length bs - from) (drop from bs) (omega (arith, length-drop from bs))

module _ {bs ns : List ℕ} {from i : ℕ} (t : Taking bs ns from i) (l : i < length ns) {n : ℕ} (e : n ≡ get_or ns i 0) where
  -- the packet at i lies inside the joined bytes
  pub inside : from + n ≤ length bs
  inside = let g = rw (here ns i l e) at t.left in omega arith

  -- behind it lie those that are left
  pub others_long : sum (drop (i + 1) ns) ≡ length (drop from bs) - n
  others_long = let g = rw (here ns i l e) at t.left in rw length-drop (omega arith)

  pub packet-long : {b : List ℕ} → b ≡ take n (drop from bs) → length b ≡ n
  packet-long f = rw f (long bs from n inside)

  module _ {to : ℕ} (g : to ≡ from + n) where
    pub taking_next : Taking bs ns to (i + 1)
    taking_next = let h = rw (here ns i l e) at t.left in record { few = omega arith; left = omega arith }

    pub packets-on : {b : List ℕ} → b ≡ take n (drop from bs) → packets (drop i ns) (drop from bs) ≡ b ∷ packets (drop (i + 1) ns) (drop to bs)
    unfolding packets
    packets-on f = rw (here ns i l e, f, g, ← drop-drop n from bs)
