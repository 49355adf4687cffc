-- A sound setting's plan: the numbers of its header, by tests over all headers that are computed.
use Prim.Native.Nat.{◌+◌, ◌%◌, ◌^◌, ◌<◌}
use native.Mathlib.Omega.{arith}
use mathlib.Core.Path.{◌≡◌, refl}
use mathlib.Core.Bool.{true, false}
use mathlib.Core.List.{[]}
use lib.Dec.{leb, eqb}
use borrow.Author.Rules.{rules}
use borrow.Author.Tests.{leb-true, ltb-true, eqb-true, ne_eqb}
use Rattle.layout.specs.declared.Shape.{Shape}
use Rattle.layout.specs.Field.{shape, size, place, width, Name.LEN, Name.CTR}
use Rattle.layout.specs.Multiple.{alignment}
use Rattle.layout.proofs.MultipleLaws.{alignment-is}
use Rattle.layout.proofs.TestLaws.{and_left, and_right}
use Rattle.packet.specs.Limit.{most_bytes}
use Rattle.usb.specs.declared.Setting.{Setting}
use Rattle.usb.specs.Setting.{headers, fields, sound}
use Rattle.usb.proofs.SettingLaws.{good, len-narrow}
use Rattle.plan.specs.declared.Plan.{Plan}
use Rattle.std.specs.Prelude.{Some, None}
use Rattle.plan.specs.Plan.{most_of, Cased, Messages}
use Rattle.plan.proofs.PlanLaws.{was_sound, was_unsound, at_most, where_some}
use Rattle.usb_plan.specs.Plan.{setting, plan_of, planned_of, LenOf, Ready}

ready : (s : Setting) → sound s ≡ true → Ready (plan_of s (shape (fields s)))
unfolding headers sound
ready s e =
    let g = good s e in
    let b : alignment s.align ≡ true = search (and_left, and_right) in
    let m : leb s.datapacket 1024 ≡ true = search (and_left, and_right) in
    record {
      ok = e;
      size = refl;
      lenwidth = refl;
      ctrwidth = refl;
      aligned = alignment-is s.align b;
      cut-least = g.cut;
      cut_most = leb-true s.datapacket 1024 m;
      longest-most = omega (arith, g.most, at_most [] headers (λ fs. 256 ^ width LEN fs) (λ fs. 65536) refl refl s.header);
      size-least = g.head;
      size-most = g.small;
      len-narrow = len-narrow s.header;
      ctr-narrow = at_most [] headers (width CTR) (λ fs. 2) refl refl s.header;
      len-first = g.first;
      ctr-next = where_some [] headers (width CTR) (place CTR) (width LEN) refl refl s.header;
      apart = at_most [] headers (λ fs. width LEN fs + width CTR fs) size refl refl s.header;
      len-least = g.lens;
      ctr-most = at_most [] headers (width CTR) (width LEN) refl refl s.header;
      ctr-odd = at_most [] headers (λ fs. width CTR fs % 2 + width LEN fs) (λ fs. 2) refl refl s.header;
      size_twice = at_most [] headers size (λ fs. width LEN fs + width LEN fs) refl refl s.header;
      layout = ltb-true s.packing 3 (search (and_left, and_right));
      eights = eqb-true (s.datapacket % 8) 0 (search (and_left, and_right));
      way = ltb-true s.direction 2 (search (and_left, and_right));
    }

pub len_of : {s : Setting} {k : Shape} → k ≡ shape (fields s) → LenOf s k.lenwidth
len_of {s} e = record { is = rw e; narrow = rw e (len-narrow s.header) }

-- messages have tails
pub tailed : {p : Plan} → Ready p → eqb p.layout 3 ≡ false
tailed {p} k = ne_eqb p.layout 3 (λ e. omega (arith, k.layout))

-- the plan of a setting that is sound
pub planned-ready : {s : Setting} {p : Plan} → Some p ≡ planned_of s → (setting p ≡ s) × Ready p
planned-ready {s} e = let (h, i) = was_sound (sound s) (plan_of s (shape (fields s))) e in rw i (refl, ready s h)

pub unplanned : (s : Setting) → None ≡ planned_of s → sound s ≡ false
unplanned s = was_unsound (sound s) (plan_of s (shape (fields s)))

-- each packet has a header of its own
pub messages : {p : Plan} → Ready p → Messages p
messages {p} k =
    let d : 2 < p.layout → Cased 4 2 2 4 1 p = λ l. absurd (omega (arith, k.layout)) in
    search rules

-- the longest transfer
pub most-is : {p : Plan} → Ready p → most_of p ≡ most_bytes
most-is {p} k = rw (ne_eqb p.layout 4 (λ e. omega (arith, k.layout)))
