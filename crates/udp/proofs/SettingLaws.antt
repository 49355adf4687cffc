-- The header's numbers, and what a sound setting has.
use Prim.Native.Nat.{◌<◌, ◌≤◌}
use mathlib.Core.Path.{◌≡◌, refl}
use mathlib.Core.Bool.{true}
use borrow.Author.Tests.{leb-true, ltb-true}
use Rattle.layout.specs.Field.{size, place, width, Name.LEN, Name.CTR}
use Rattle.layout.proofs.TestLaws.{and_left, and_right}
use Rattle.udp.specs.declared.Setting.{Setting}
use Rattle.udp.specs.Setting.{fields, H, W, sound}

pub head-size : size fields ≡ H
unfolding fields
head-size = refl

pub len-width : width LEN fields ≡ 2
unfolding fields
len-width = refl

pub len-first : place LEN fields ≡ 0
unfolding fields
len-first = refl

pub ctr-width : width CTR fields ≡ W
unfolding fields
ctr-width = refl

pub ctr-next : place CTR fields ≡ 2
unfolding fields
ctr-next = refl

pub record Good (s : Setting) : Type 0 where
  pub least : 8 ≤ s.longest
  pub most : s.longest ≤ 1468
  pub way : s.direction < 2

pub good : (s : Setting) → sound s ≡ true → Good s
unfolding sound
good s e =
    record {
      least = leb-true 8 s.longest (search (and_left, and_right));
      most = leb-true s.longest 1468 (search (and_left, and_right));
      way = ltb-true s.direction 2 (search (and_left, and_right));
    }
