-- A sound setting's plan: the numbers of its header.
use Prim.Native.Nat.{◌+◌}
use native.Mathlib.Omega.{arith}
use mathlib.Core.Path.{◌≡◌, refl}
use mathlib.Core.Bool.{true, false}
use mathlib.Core.List.{[]}
use borrow.Author.Tests.{ltb-true}
use Rattle.layout.specs.Field.{shape, size, place, width, Name.LEN, Name.CTR}
use Rattle.layout.proofs.TestLaws.{and_left, and_right}
use Rattle.flexray.specs.declared.Entry.{Entry}
use Rattle.flexray.specs.declared.Setting.{Setting}
use Rattle.flexray.specs.Setting.{Header, headers, header, fields, sound, among}
use Rattle.flexray.proofs.AlignLaws.{among-header}
use Rattle.flexray.proofs.SettingLaws.{good}
use Rattle.plan.specs.declared.Plan.{Plan}
use Rattle.std.specs.Prelude.{Some, None}
use Rattle.plan.specs.Plan.{Sized}
use Rattle.plan.proofs.PlanLaws.{was_sound, was_unsound, where_some}
use Rattle.flexray_plan.specs.Plan.{setting, plan_of, planned_of, further_of, goes, EntryOf, Ready}

pub goes-is : {s : Setting} {h : Entry} → EntryOf s h → goes s.align h ≡ among s.align (header s.header).aligns
goes-is {s} e = rw (e.is, among-header s.header s.align)

ready : (s : Setting) → sound s ≡ true → Ready (plan_of s (shape (fields s)))
unfolding headers sound
ready s e =
    let g = good s e in
    let none : Header = record { fields = []; aligns = [] } in
    record {
      ok = e;
      size = refl;
      lenwidth = refl;
      ctrwidth = refl;
      naxat = g.naxat;
      naxwidth = g.naxwidth;
      node = g.node;
      aligned = g.aligned;
      ceiling-least = g.least;
      ceiling-most = g.most;
      even = g.even;
      size-least = g.head;
      size-most = g.small;
      len-narrow = g.lens;
      ctr-narrow = g.ctrs;
      ctr_second = where_some none headers (λ h. width CTR h.fields) (λ h. place CTR h.fields) (λ h. 1) refl refl s.header;
      len-last =
          where_some none headers (λ h. width LEN h.fields) (λ h. place LEN h.fields + 1) (λ h. size h.fields) refl refl s.header;
      apart = g.apart;
      whole = g.whole;
      way = ltb-true s.direction 2 (search (and_left, and_right));
    }

-- the plan of the packets behind a frame's first
pub further-sized : {p : Plan} → Ready p → Sized (further_of p)
further-sized k =
    record {
      aligned = k.aligned;
      size-least = omega arith;
      size-most = omega arith;
      len-narrow = omega arith;
      ctr-narrow = omega arith;
      fields = omega arith;
      cut-least = k.ceiling-least;
      cut_most = omega (arith, k.ceiling-most);
      way = k.way;
    }

-- the plan of a setting that is sound
pub planned-ready : {s : Setting} {p : Plan} → Some p ≡ planned_of s → (setting p ≡ s) × Ready p
planned-ready {s} e = let (h, i) = was_sound (sound s) (plan_of s (shape (fields s))) e in rw i (refl, ready s h)

pub unplanned : (s : Setting) → None ≡ planned_of s → sound s ≡ false
unplanned s = was_unsound (sound s) (plan_of s (shape (fields s)))
