-- A sound setting's plan: each packet has a header of its own.
use native.Mathlib.Omega.{arith}
use mathlib.Core.Path.{◌≡◌, refl}
use mathlib.Core.Bool.{true}
use mathlib.Core.Logic.{inl}
use Rattle.plan.specs.Plan.{Messages}
use Rattle.udp.specs.declared.Setting.{Setting}
use Rattle.udp.specs.Plan.{plan_of}
use Rattle.udp.specs.Setting.{fields, sound}
use Rattle.udp.proofs.SettingLaws.{good}

pub messages : (s : Setting) → sound s ≡ true → Messages (plan_of s)
unfolding fields
messages s e =
    let g = good s e in
    record {
      sized =
          record {
            aligned = inl refl;
            size-least = omega arith;
            size-most = omega arith;
            len-narrow = omega arith;
            ctr-narrow = omega arith;
            fields = omega arith;
            cut-least = omega arith;
            cut_most = omega arith;
            way = g.way;
          };
      longest-most = omega (arith, g.most);
      len-least = omega arith;
      ctr-most = omega arith;
      ctr-odd = omega arith;
      size_twice = omega arith;
      eights = refl;
      layout-most = omega arith;
      datagram = λ _. record { layout_is = refl; lenwidth-is = refl; ctrwidth-is = refl; size_is = refl; align_is = refl };
    }
