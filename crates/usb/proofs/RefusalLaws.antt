-- A transfer is refused with a number at a place exactly where document 01's table says so, and accepted exactly where nothing is refused.
use Prim.Native.Nat.{ℕ}
use mathlib.Core.Path.{◌≡◌}
use mathlib.Core.Bool.{true}
use mathlib.Core.Logic.{◌↔◌}
use mathlib.Core.List.{List}
use lib.ListN.{length}
use Rattle.packet.specs.declared.Counter.{Counter}
use Rattle.packet.specs.Reading.{Reading as R}
use Rattle.packet.specs.Row.{table, behind}
use Rattle.packet.proofs.CounterLaws.{valid_without}
use Rattle.packet.proofs.ReadTableLaws as T
use Rattle.packet.proofs.RowLaws.{state_unread, state_unaltered}
use Rattle.packet.proofs.ReaderLaws.{Alike, Rules, Reader, alike}
use Rattle.usb.specs.declared.Setting.{Setting}
use Rattle.usb.specs.Setting.{W}
use Rattle.usb.specs.Reading.{judged, read_of}
use Rattle.usb.specs.Refusal.{ReadAccept}
use Rattle.usb.proofs.ReadLaws.{walks}

module _ (s : Setting) (t : List ℕ) (c : Counter) (rows : List ℕ) where
  -- what document 01 says of a read
  abbrev pub rules : Rules t rows
  rules = T.rules (walks s t) s.direction (W s) c rows

  pub read_exact : Reader rules (read_of s t c rows)
  unfolding read_of judged
  read_exact = T.read_exact (walks s t) s.direction (W s) c rows

  pub accepted_exactly : (k : ℕ) (d : Counter) → ((read_of s t c rows).answer ≡ R.Rows k d) ↔ ReadAccept s t c (length rows) k d
  accepted_exactly = read_exact.exact.accepted

---- Without CTR ----------------------------------------------------------------------------------------------------------------

-- the state is neither read nor altered
pub counter_unread : (s : Setting) (t : List ℕ) → W s ≡ 0 → (rows : List ℕ) (b c : Counter) → Alike (read_of s t b rows) (read_of s t c rows) b
unfolding read_of
counter_unread s t none rows b c =
    rw (none, valid_without b, valid_without c)
    (alike (table s.direction 0 b) (behind 0 b) rows true (judged s t) (table s.direction 0 c) (behind 0 c) b
    (state_unread s.direction b c) (state_unaltered b))
