-- The bytes that the loop puts are those of a datagram, and the lengths that it takes are those that fit.
use Prim.Native.Nat.{ℕ, ◌+◌}
use native.Mathlib.Nat.{sub_self}
use mathlib.Core.Path.{◌≡◌, refl}
use mathlib.Core.Bool.{false, or-false, ◌||◌}
use mathlib.Core.List.{List, [], ◌∷◌, append-nil}
use lib.ListN.{length}
use lib.Dec.{eqb, ltb}
use Rattle.packet.specs.declared.At.{At}
use Rattle.packet.specs.Counter.{next}
use Rattle.packet.specs.Packets.{packets}
use Rattle.packet.specs.Packets.{first as first_of}
use Rattle.plan.proofs.PlaceLaws.{untailed}
use Rattle.sizing.specs.Places.{spot}
use Rattle.sizing.specs.Sizes.{misfit_at, reach, first}
use Rattle.writing.specs.Bytes.{rest_bytes}
use Rattle.writing.specs.Puts.{bytes_from}
use Rattle.message_writer.specs.Writes.{output_of}
use Rattle.udp.specs.declared.Setting.{Setting}
use Rattle.udp.specs.Plan.{plan_of}
use Rattle.udp.specs.Setting.{fields, W}
use Rattle.udp.specs.Writing.{misfit, write}

module _ (s : Setting) where
  -- a length fits by itself, wherever its message stands
  pub index_is : (a : At) (ns : List ℕ) → first_of (misfit s) ns ≡ misfit_at (plan_of s) a ns
  unfolding first_of misfit_at misfit
  index_is a [] = refl
  index_is a (n ∷ ns) = rw (or-false (eqb n 0 || ltb s.longest n), index_is (spot (plan_of s) a n).next ns)

  -- a message stands where the one before it ends
  from_is : (a : At) (n : ℕ) → (spot (plan_of s) a n).from ≡ a.q
  unfolding spot
  from_is a n = refl

  -- nothing is passed over, and there is no tail
  none : rest_bytes (plan_of s) 0 0 ≡ []
  unfolding rest_bytes
  none = refl

  bytes_are : (a : At) (c : ℕ) (bs : List (List ℕ)) → bytes_from (plan_of s) 0 a c bs ≡ write c bs
  unfolding bytes_from write fields
  bytes_are a c [] = refl
  bytes_are a c (b ∷ bs) =
      let on = bytes_are (spot (plan_of s) a (length b)).next (next W c) bs in
      rw (from_is a (length b), sub_self a.q, none, untailed (plan_of s) refl (4 + length b), sub_self (4 + length b), append-nil b, on)

  pub output_is : (bs ns : List ℕ) (c : ℕ) → output_of (plan_of s) bs ns c 0 false ≡ write c (packets ns bs)
  unfolding output_of
  output_is bs ns c =
      rw (sub_self (reach (plan_of s) (first 0) ns).q, none, append-nil (bytes_from (plan_of s) 0 (first 0) c (packets ns bs)))
      (bytes_are (first 0) c (packets ns bs))
