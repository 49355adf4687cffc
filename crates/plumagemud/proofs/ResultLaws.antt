-- Any two results that a contract of a reader or a writer, as C calls it, allows are equal.
use Prim.Native.Nat.{ℕ}
use mathlib.Core.Path.{◌≡◌, sym, ◌∙◌}
use mathlib.Core.List.{List}
use Rattle.packet.specs.declared.Counter.{Counter}
use Rattle.packet.specs.Reading.{Reading}
use Rattle.packet.specs.Writing.{Writing}
use Rattle.packet.specs.Answer.{Answer}
use Rattle.plumagemud.specs.declared.ReadResult.{ReadResult}
use Rattle.plumagemud.specs.declared.WriteResult.{WriteResult}
use Rattle.plumagemud.specs.Result.{Reads, Writes}

module _ {a : Answer Reading} {c : Counter} where
  pub one_read : {x y : ReadResult} {left past : List ℕ} → Reads a c x left → Reads a c y past → (x ≡ y) × (left ≡ past)
  one_read g h = (g.result ∙ sym h.result, g.rows ∙ sym h.rows)

module _ {a : Answer Writing} {c : ℕ} where
  pub one_written : {x y : WriteResult} {left past : List ℕ} → Writes a c x left → Writes a c y past → (x ≡ y) × (left ≡ past)
  one_written g h = (g.result ∙ sym h.result, g.out ∙ sym h.out)
