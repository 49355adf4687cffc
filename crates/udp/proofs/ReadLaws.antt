-- A datagram is accepted exactly if some list of messages makes it up, with that list, and refused exactly where document 01's table and Ask 3 say so.
use Prim.Native.Nat.{ℕ, ◌<◌, ◌≤◌}
use native.Mathlib.Omega.{arith}
use mathlib.Core.Path.{◌≡◌}
use mathlib.Core.List.{List, []}
use lib.ListN.{length, drop, drop_of_length-le}
use Rattle.layout.proofs.OutcomeLaws as O
use Rattle.packet.specs.declared.Counter.{Counter}
use Rattle.packet.proofs.ReaderLaws.{Rules, Reader}
use Rattle.packet.proofs.ReadTableLaws as T
use Rattle.packet.proofs.ReadTableLaws.{Walks}
use Rattle.packet.proofs.SeenLaws.{shown}
use Rattle.udp.specs.declared.Setting.{Setting}
use Rattle.udp.specs.Setting.{W, most_datagram, sound}
use Rattle.udp.specs.Layout.{Datagram}
use Rattle.udp.specs.Reading.{seen, ahead, judged, read_of}
use Rattle.udp.specs.Refusal.{Broken, Breaks}
use Rattle.udp.proofs.LaidLaws.{keeps, leads-from}

-- a broken rule has one of document 01's numbers, which is not 1
rule-number : {s : Setting} {n : ℕ} {bs : List ℕ} → Broken s bs n → (1 < n) × (n ≤ 8)
rule-number (Broken.zeroed h) = omega arith
rule-number (Broken.over n h x) = omega arith
rule-number (Broken.past n h z x f) = omega arith
rule-number (Broken.few z f) = omega arith

module _ (s : Setting) (t : List ℕ) where
  -- behind the last byte nothing is left
  none : drop (length t) t ≡ []
  none = drop_of_length-le t {i = length t} (omega arith)

  pub walks : Walks (sound s) most_datagram t (Breaks s t) (λ ms. Datagram s ms t) (ahead s t 0)
  unfolding ahead
  walks =
      record {
        whole = λ k l e. record { setting = k; long = l; laid = rw none at (O.whole (keeps s t) e) };
        setting = λ x. x.setting;
        short = λ x. x.long;
        listed = λ x. O.listed (keeps s t) (rw none x.laid);
        breaks = λ k. O.breaks (keeps s t);
        broken = λ k. O.broken (keeps s t);
        number = λ b. rule-number b.broken;
        shown = λ x. shown t (seen s t) (leads-from s t x.laid);
      }

  module _ (c : Counter) (rows : List ℕ) where
    -- what document 01 says of a read
    abbrev pub rules : Rules t rows
    rules = T.rules walks s.direction W c rows

    pub read_exact : Reader rules (read_of s t c rows)
    unfolding read_of judged
    read_exact = T.read_exact walks s.direction W c rows
