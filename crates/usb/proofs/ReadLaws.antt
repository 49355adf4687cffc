-- The reader accepts exactly if some list of messages makes up the transfer, and gives that list; it refuses exactly where a rule is broken.
use Prim.Native.Nat.{ℕ, ◌-◌, ◌<◌, ◌≤◌}
use native.Mathlib.Omega.{arith}
use mathlib.Core.Path.{◌≡◌, refl, sym, ap, ◌∙◌}
use mathlib.Core.List.{List, []}
use lib.ListN.{length, drop, length-drop, drop_of_length-le}
use Rattle.layout.specs.Walk.{Out.list}
use Rattle.layout.proofs.OutcomeLaws as O
use Rattle.layout.proofs.OutcomeLaws.{Keeps}
use Rattle.packet.specs.Message.{Msg}
use Rattle.packet.specs.Limit.{most_bytes}
use Rattle.packet.proofs.SeenLaws.{shown}
use Rattle.packet.proofs.ReadTableLaws as T
use Rattle.packet.proofs.ReadTableLaws.{Walks}
use Rattle.usb.specs.declared.Setting.{Setting}
use Rattle.usb.specs.Setting.{sound}
use Rattle.usb.specs.Layout.{Laid, Transfer}
use Rattle.usb.specs.Reading.{seen, step, ahead, judged}
use Rattle.usb.specs.Refusal.{Broken, Breaks}
use Rattle.usb.proofs.SettingLaws.{Good, good}
use Rattle.usb.proofs.LaidLaws.{leads, lay, forward, at-end, at-broken, ends_there, breaks_there}

-- a broken rule has one of document 01's numbers, which is not 1
pub rule-number : {s : Setting} {q n : ℕ} {bs : List ℕ} → Broken s q bs n → (1 < n) × (n ≤ 8)
rule-number (Broken.over n h x) = omega arith
rule-number (Broken.past n h x f) = omega arith
rule-number (Broken.short p z l f) = omega arith
rule-number (Broken.zeroed p z l e) = omega arith

module _ (s : Setting) (t : List ℕ) where
  -- the steps keep to the layout
  keeps : Good s → Keeps (step s t) (length t) (λ p ms. Laid s p (drop p t) 0 ms t) (λ p n. Broken s p (drop p t) n)
  keeps g =
      record {
        forward = forward s g t;
        leads = λ l. leads s g t l refl;
        lay = lay s g t;
        at-end = at-end s g t;
        ends_there = λ q l d.
            let n : length t - q ≡ 0 = sym (length-drop q t) ∙ ap length (ends_there s g t q d) in
            omega arith;
        at-broken = at-broken s g t;
        breaks_there = breaks_there s g t;
      }

  -- behind the last byte nothing is left
  none : drop (length t) t ≡ []
  none = drop_of_length-le t {i = length t} (omega arith)

  pub walks : Walks (sound s) most_bytes t (Breaks s t) (λ ms. Transfer s ms t) (ahead s t 0)
  unfolding ahead
  walks =
      record {
        whole = λ k l e. record { setting = k; long = l; laid = rw none at (O.whole (keeps (good s k)) e) };
        setting = λ x. x.setting;
        short = λ x. x.long;
        listed = λ x. O.listed (keeps (good s x.setting)) (rw none x.laid);
        breaks = λ k. O.breaks (keeps (good s k));
        broken = λ k. O.broken (keeps (good s k));
        number = λ b. rule-number b.broken;
        shown = λ x. shown t (seen s t) (leads s (good s x.setting) t x.laid refl);
      }

  -- what the reader accepts is laid out so
  pub read_sound : (ms : List Msg) → judged s t ≡ list ms → Transfer s ms t
  unfolding judged
  read_sound = T.read_sound walks
