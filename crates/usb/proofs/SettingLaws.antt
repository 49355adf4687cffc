-- What a sound setting has, by one test over all headers that is computed.
use Prim.Native.Nat.{ℕ, zero, suc, ◌+◌, ◌-◌, ◌*◌, ◌/◌, ◌%◌, ◌^◌, ◌<◌, ◌≤◌}
use native.Mathlib.Omega.{arith}
use native.Mathlib.Nat.{mod-lt, div-add-mod'}
use mathlib.Core.Path.{◌≡◌, refl}
use mathlib.Core.Bool.{Bool, true, ◌&&◌, ◌||◌}
use mathlib.Core.List.{List, []}
use lib.Dec.{leb, ltb, eqb}
use borrow.Author.Tests.{ltb-true, leb-true, eqb-true}
use Rattle.layout.specs.Field.{Field, size, place, width, Name.LEN}
use Rattle.layout.proofs.FieldLaws.{inside}
use Rattle.layout.proofs.TableLaws.{all-at, all-given}
use Rattle.layout.proofs.TestLaws.{and_left, and_right}
use Rattle.usb.specs.declared.Setting.{Setting}
use Rattle.usb.specs.Setting.{headers, header, fields, H, sound}

pub record Good (s : Setting) : Type 0 where
  pub align : 0 < s.align
  pub cut : 8 ≤ s.datapacket
  pub most : s.longest < 256 ^ width LEN (fields s)
  pub lens : 0 < width LEN (fields s)
  pub first : place LEN (fields s) ≡ 0
  pub head : 0 < H s
  pub small : H s ≤ 4

-- every header has LEN at its start, and at most 4 bytes
right : List Field → Bool
right fs = ltb 0 (width LEN fs) && eqb (place LEN fs) 0 && leb (size fs) 4

all_right : (s : Setting) → s.header < 6 → right (fields s) ≡ true
unfolding headers right
all_right s h = all-at right [] headers s.header refl h

aligned : (a : ℕ) → eqb a 1 || eqb a 2 || eqb a 4 || eqb a 8 ≡ true → 0 < a
aligned zero e = let z : ◌≡◌ {A = ℕ} 0 1 = cc in absurd (omega arith)
aligned (suc a) e = omega arith

pub good : (s : Setting) → sound s ≡ true → Good s
unfolding sound right
good s e =
    let fs = fields s in
    let r : right fs ≡ true = all_right s (ltb-true s.header 6 (search (and_left, and_right))) in
    let l : 0 < width LEN fs = ltb-true 0 (width LEN fs) (search (and_left, and_right)) in
    record {
      align = aligned s.align (search (and_left, and_right));
      cut = leb-true 8 s.datapacket (search (and_left, and_right));
      most = ltb-true s.longest (256 ^ width LEN fs) (search (and_left, and_right));
      lens = l;
      first = eqb-true (place LEN fs) 0 (search (and_left, and_right));
      head = omega (arith, inside LEN fs);
      small = leb-true (H s) 4 (search (and_left, and_right));
    }

-- in no header has LEN more than two bytes
pub len-narrow : (n : ℕ) → width LEN (header n) ≤ 2
unfolding headers
len-narrow n = leb-true _ _ (all-given (λ fs. leb (width LEN fs) 2) [] headers n refl refl)

---- Places in a data packet ----------------------------------------------------------------------------------------------------

module _ {s : Setting} (g : Good s) (q : ℕ) where
  pub into : q % s.datapacket < s.datapacket
  into =
      let c : 0 < s.datapacket = omega (arith, g.cut) in
      mod-lt q c

  -- where the data packet of a place ends
  pub cut_at : q + (s.datapacket - q % s.datapacket) ≡ suc (q / s.datapacket) * s.datapacket
  cut_at = omega (arith, div-add-mod' q s.datapacket, into)
