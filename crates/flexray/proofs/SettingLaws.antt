-- What a sound setting has. For the header: by one computed test over the table, whose numbers are those that have an alignment.
use Prim.Native.Nat.{ℕ, ◌+◌, ◌%◌, ◌<◌, ◌≤◌}
use native.Mathlib.Omega.{arith}
use mathlib.Core.Path.{◌≡◌, refl}
use mathlib.Core.Bool.{Bool, true, false, ◌&&◌, ◌||◌}
use mathlib.Core.List.{List, [], ◌∷◌}
use lib.ListN.{length, get_or-eq_default}
use lib.Dec.{leb, ltb, eqb}
use borrow.Author.Tests.{ltb-true, ltb-false, leb-true, eqb-true}
use Rattle.layout.specs.Field.{size, place, width, Name.NAX, Name.LEN, Name.CTR}
use Rattle.layout.specs.Multiple.{Aligned, alignment}
use Rattle.layout.proofs.MultipleLaws.{alignment-is}
use Rattle.layout.proofs.TestLaws.{and_left, and_right}
use Rattle.layout.proofs.TableLaws.{all, all-at}
use Rattle.flexray.specs.declared.Setting.{Setting}
use Rattle.flexray.specs.Setting.{Header, headers, header, fields, H, L, W, among, sound, most_ceiling}

pub record Good (s : Setting) : Type 0 where
  pub node : s.node < 256
  pub least : 8 ≤ s.ceiling
  pub most : s.ceiling ≤ most_ceiling
  pub even : s.ceiling % 2 ≡ 0
  pub aligned : Aligned s.align
  pub naxat : place NAX (fields s) ≡ 0
  pub naxwidth : width NAX (fields s) ≡ 1
  pub head : 1 ≤ H s
  pub small : H s ≤ 4
  pub lens : L s ≤ 1
  pub ctrs : W s ≤ 1
  -- NAX, CTR and LEN have room, and the first packet starts at a multiple of the alignment
  pub apart : 1 + W s + L s ≤ H s
  pub whole : H s % s.align ≡ 0

right : Header → Bool
right h =
    let fs = h.fields in
    (eqb (place NAX fs) 0 && eqb (width NAX fs) 1 && leb (width LEN fs) 1 && leb (width CTR fs) 1)
    && (leb 1 (size fs) && leb (size fs) 4 && leb (1 + width CTR fs + width LEN fs) (size fs))
    && (all alignment h.aligns && all (λ a. eqb (size fs % a) 0) h.aligns)

-- an alignment of the list passes what all of it pass
among-all : (f : ℕ → Bool) (a : ℕ) (bs : List ℕ) → among a bs ≡ true → all f bs ≡ true → f a ≡ true
among-all f a [] m h = cc
among-all f a (b ∷ bs) m h = at (eqb a b) refl m (λ e. among-all f a bs e (and_right (f b) (all f bs) h))
  where
    at : (x : Bool) → eqb a b ≡ x → x || among a bs ≡ true → (among a bs ≡ true → f a ≡ true) → f a ≡ true
    at true g m on = rw (eqb-true a b g) (and_left (f b) (all f bs) h)
    at false g m on = on m

-- only the numbers of the table have an alignment
listed : (a n : ℕ) → among a (header n).aligns ≡ true → n < length headers
listed a n e = at (ltb n (length headers)) refl
  where
    at : (b : Bool) → ltb n (length headers) ≡ b → n < length headers
    at true g = ltb-true n (length headers) g
    at false g =
        let d : header n ≡ record { fields = []; aligns = [] } = get_or-eq_default headers _ {n = n} (ltb-false n (length headers) g) in
        let z : false ≡ true = rw d at e in
        let y : ◌≡◌ {A = ℕ} 0 1 = cc in
        absurd (omega arith)

headers-right : (n : ℕ) → n < length headers → right (header n) ≡ true
unfolding headers right
headers-right n h = all-at right (record { fields = []; aligns = [] }) headers n refl h

pub good : (s : Setting) → sound s ≡ true → Good s
unfolding sound right
good s e =
    let fs = fields s in
    let aligns = (header s.header).aligns in
    let m : among s.align aligns ≡ true = search (and_left, and_right) in
    let r : right (header s.header) ≡ true = headers-right s.header (listed s.align s.header m) in
    record {
      node = ltb-true s.node 256 (search (and_left, and_right));
      least = leb-true 8 s.ceiling (search (and_left, and_right));
      most = leb-true s.ceiling most_ceiling (search (and_left, and_right));
      even = eqb-true (s.ceiling % 2) 0 (search (and_left, and_right));
      aligned = alignment-is s.align (among-all alignment s.align aligns m (search (and_left, and_right)));
      naxat = eqb-true (place NAX fs) 0 (search (and_left, and_right));
      naxwidth = eqb-true (width NAX fs) 1 (search (and_left, and_right));
      head = leb-true 1 (H s) (search (and_left, and_right));
      small = leb-true (H s) 4 (search (and_left, and_right));
      lens = leb-true (L s) 1 (search (and_left, and_right));
      ctrs = leb-true (W s) 1 (search (and_left, and_right));
      apart = leb-true (1 + W s + L s) (H s) (search (and_left, and_right));
      whole = eqb-true (H s % s.align) 0 (among-all (λ a. eqb (H s % a) 0) s.align aligns m (search (and_left, and_right)));
    }
