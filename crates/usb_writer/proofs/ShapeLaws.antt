-- The headers of a sound setting, byte by byte.
use Prim.Native.Nat.{ℕ, ◌-◌}
use mathlib.Core.Path.{◌≡◌, refl}
use mathlib.Core.List.{[], ◌++◌}
use lib.ListN.{replicate}
use Rattle.layout.specs.Field.{size, width, values, puts, bytes, Name.LEN, Name.CTR}
use Rattle.layout.proofs.TableLaws.{alike}
use Rattle.plan.specs.declared.Plan.{Plan}
use Rattle.usb.specs.Setting.{headers, fields}
use Rattle.usb_plan.specs.Plan.{setting, Ready}
use Rattle.writing.specs.Bytes.{head_bytes}

-- in every header LEN stands first, CTR behind it, and the rest is free: one equation over the whole table
pub head-is : {p : Plan} → Ready p → (free c n : ℕ) → puts (values 0 n c) free (fields (setting p)) ≡ head_bytes p free c n
unfolding headers
head-is {p} k free c n =
    rw (k.lenwidth, k.ctrwidth, k.size)
    (alike (puts (values 0 n c) free)
    (λ fs. bytes (width LEN fs) n ++ (bytes (width CTR fs) c ++ replicate (size fs - width LEN fs - width CTR fs) free)) [] headers p.header refl
    refl)
