-- A table has five numbers for each message, and without CTR it goes by no state.
use Rattle.std.proofs.Common.{◌≡◌, ℕ, zero, suc, ◌+◌, ◌*◌, ◌<◌, List, []}
use Rattle.std.proofs.Common.{◌∷◌, ◌++◌, length, get_or, refl, ◌∙◌, arith, get_or-append-add}
use Rattle.packet.specs.declared.Counter.{Counter}
use Rattle.packet.specs.declared.Row.{Row}
use Rattle.packet.specs.Message.{Msg}
use Rattle.packet.specs.Counter.{gap, advance}
use Rattle.packet.specs.Row.{row, numbers, table, behind}

pub length-table : (d w : ℕ) (c : Counter) (ms : List Msg) → length (table d w c ms) ≡ 5 * length ms
unfolding table
length-table d w c [] = refl
length-table d w c (m ∷ ms) = omega (arith, length-table d w (advance w 1 c m.ctr) ms)

-- behind the first row stand the others
pub row-behind : (r : Row) (ns : List ℕ) (i j z : ℕ) → get_or (numbers r ++ ns) (5 * suc i + j) z ≡ get_or ns (5 * i + j) z
row-behind r ns i j z =
    let e : 5 * suc i + j ≡ 5 + (5 * i + j) = omega arith in
    rw e (get_or-append-add (numbers r) ns (5 * i + j) z)

-- messages that carry no counter show no gap, the fourth number of a row
pub table_gaps : (d : ℕ) (c : Counter) (ms : List Msg) (i z : ℕ) → i < length ms → get_or (table d 0 c ms) (5 * i + 3) z ≡ 0
unfolding table row gap
table_gaps d c [] i z l = absurd (omega arith)
table_gaps d c (m ∷ ms) zero z l = refl
table_gaps d c (m ∷ ms) (suc i) z l =
    let s : Counter = advance 0 1 c m.ctr in
    row-behind (row d 0 c m) (table d 0 s ms) i 3 z ∙ table_gaps d s ms i z (omega arith)

-- without CTR the state is neither read nor altered
pub state_unaltered : (c : Counter) (ms : List Msg) → behind 0 c ms ≡ c
unfolding behind advance
state_unaltered c [] = refl
state_unaltered c (m ∷ ms) = state_unaltered c ms

pub state_unread : (d : ℕ) (b c : Counter) (ms : List Msg) → table d 0 b ms ≡ table d 0 c ms
unfolding table row gap advance
state_unread d b c [] = refl
state_unread d b c (m ∷ ms) = rw (state_unread d b c ms)
