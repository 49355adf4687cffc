-- Runs that are put in blocks. The last block may lie over bytes that are put already.
use Prim.Native.Nat.{ℕ, zero, suc, ◌+◌, ◌-◌, ◌≤◌}
use native.Mathlib.Omega.{arith}
use native.Mathlib.Nat.{add-zero, add-suc, suc-add, sub-zero}
use mathlib.Core.Path.{◌≡◌, refl, sym, ap, ◌∙◌}
use mathlib.Core.List.{List, [], ◌∷◌, ◌++◌, append-nil}
use lib.ListN.{length, set, take, drop, replicate, length-take, length-drop, length-replicate, drop_of_length-le}
use lib.Seq.{sets, take_all, set-set}
use Rattle.std.proofs.lemmas.List.{take-replicate, drop-replicate}
use Rattle.store.specs.Store.{block}
use Rattle.store.proofs.StoreLaws.{set_before}

---- A block over another -------------------------------------------------------------------------------------------------------

-- ws is put over the front of vs, of which the rest stands behind it
same_place : (ws vs out : List ℕ) (at : ℕ) → sets (sets out at vs) at ws ≡ sets out at (ws ++ drop (length ws) vs)
same_place [] vs out at = refl
same_place (w ∷ ws) [] out at = rw append-nil
same_place (w ∷ ws) (v ∷ vs) out at =
    ap (λ xs. sets xs (suc at) ws) (set_before vs (set out at v) at (suc at) w (omega arith) ∙ rw (set-set out at v w))
    ∙ same_place ws vs (set out at w) (suc at)

-- .. of which nothing is left, if it is no longer
pub written_over : (ws vs out : List ℕ) (at : ℕ) → length vs ≤ length ws → sets (sets out at vs) at ws ≡ sets out at ws
written_over ws vs out at h = same_place ws vs out at ∙ rw (drop_of_length-le vs {i = length ws} h, append-nil)

-- .. and vs starts j bytes further on
pub front_over : (ws vs out : List ℕ) (at j : ℕ) → j ≤ length ws
    → sets (sets out (at + j) vs) at ws ≡ sets out at (ws ++ drop (length ws - j) vs)
front_over ws vs out at zero h = rw (add-zero, sub-zero) (same_place ws vs out at)
front_over [] vs out at (suc j) h = absurd (omega arith)
front_over (w ∷ ws) vs out at (suc j) h =
    let e : at + suc j ≡ suc at + j = omega arith in
    let d : suc (length ws) - suc j ≡ length ws - j = omega arith in
    ap (λ xs. sets xs (suc at) ws) (set_before vs out at (at + suc j) w (omega arith))
    ∙ rw (e, d) (front_over ws vs (set out at w) (suc at) j (omega arith))

-- the first k bytes are put, and then those from j on
over : (bs out : List ℕ) (at j k : ℕ) → j ≤ k → sets (sets out at (take k bs)) (at + j) (drop j bs) ≡ sets out at bs
over bs out at zero k h =
    rw add-zero (written_over bs (take k bs) out at (omega (arith, length-take k bs)))
over bs out at (suc j) zero h = absurd (omega arith)
over [] out at (suc j) (suc k) h = refl
over (b ∷ bs) out at (suc j) (suc k) h = rw (add-suc at j, ← suc-add at j) (over bs (set out at b) (suc at) j k (omega arith))

-- the first k bytes are put, and then the last m
pub part_ends : (bs out : List ℕ) (at k m : ℕ) → m ≤ length bs → length bs ≤ k + m → {one two vs : List ℕ} {p : ℕ}
    → one ≡ sets out at (take k bs) → p ≡ at + (length bs - m) → vs ≡ block bs (length bs - m) m → two ≡ sets one p vs
    → two ≡ sets out at bs
part_ends bs out at k m l h x e y z =
    let d : length (drop (length bs - m) bs) ≡ length bs - (length bs - m) = length-drop (length bs - m) bs in
    let t : block bs (length bs - m) m ≡ drop (length bs - m) bs = take_all m (drop (length bs - m) bs) (omega arith) in
    z ∙ rw (x, e, y, t) (over bs out at (length bs - m) k (omega arith))

---- Free bytes -----------------------------------------------------------------------------------------------------------------

-- of n free bytes the first m are put, and then the last m
pub fill_ends : (out : List ℕ) (at n m b : ℕ) → m ≤ n → n ≤ m + m → {one two : List ℕ} {p : ℕ}
    → one ≡ sets out at (replicate m b) → p ≡ at + (n - m) → two ≡ sets one p (replicate m b) → two ≡ sets out at (replicate n b)
fill_ends out at n m b l h x e z =
    let f : List ℕ = replicate n b in
    let d : length f ≡ n = length-replicate n b in
    let r : n - (n - m) ≡ m = omega arith in
    let t : replicate m b ≡ block f (length f - m) m = sym (rw (d, drop-replicate, r) (take-replicate m m b (omega arith))) in
    part_ends f out at m m (omega arith) (omega arith) (x ∙ rw (take-replicate m n b l)) (e ∙ rw d) t z
