-- Bytes that are put one behind another, and bytes that are put into the rest of an output.
use Prim.Native.Nat.{ℕ, zero, suc, ◌+◌, ◌-◌, ◌<◌, ◌≤◌}
use native.Mathlib.Omega.{arith}
use native.Mathlib.Nat.{add-zero, zero-add, add-suc, suc-add}
use native.Mathlib.Numerals.{add-one}
use mathlib.Core.Path.{◌≡◌, refl, sym, ap, ◌∙◌}
use mathlib.Core.Bool.{Bool, true, false, cond, ◌&&◌}
use mathlib.Core.List.{List, [], ◌∷◌, ◌++◌, append-nil, append_assoc}
use lib.ListN.{length, get_or, set, take, drop, length-set, length-take, length-drop, take-append-drop, drop_of_length-le}
use borrow.Rule.Slice.PartMut.{put_mid}
use lib.Dec.{leb}
use lib.Seq.{sets, sets-eq, set-set, set_comm, drop-drop, drop-set-add, get_or-take, get_or-drop}
use lib.Seq.{take_all, take_at, take-take, take-suc, length-take-le, take-set-le}
use Rattle.layout.proofs.PartLaws.{long}
use Rattle.layout.proofs.RunLaws.{sets-append}
use Rattle.store.specs.Store.{block, along}

---- A part of an output ---------------------------------------------------------------------------------------------------------

-- n bytes of an output from a place on are lent, and come back as vs
pub part_put : (out vs : List ℕ) (at n : ℕ) {part : List ℕ} → at + n ≤ length out → length vs ≡ n → part ≡ vs
    → put_mid at (at + n - at) out part ≡ sets out at vs
part_put out vs at n h l e =
    let k : at + n - at ≡ n = omega arith in
    rw (k, e, sets-eq vs out at (omega arith), l, drop-drop, append_assoc)

---- The loops ------------------------------------------------------------------------------------------------------------------

-- of the n bytes vs, to be put at a place, the first i are put
pub record Put (old : List ℕ) (at : ℕ) (vs : List ℕ) (n : ℕ) (out : List ℕ) (i : ℕ) : Type 0 where
  pub count : length vs ≡ n
  pub inside : i ≤ n
  pub same : out ≡ sets old at (take i vs)
  pub long : length out ≡ length old

module _ {old : List ℕ} {at : ℕ} {vs : List ℕ} {n : ℕ} {out : List ℕ} {i : ℕ} (p : Put old at vs n out i) where
  pub put_next : {w : ℕ} → i < n → get_or vs i 0 ≡ w → Put old at vs n (set out (at + i) w) (i + 1)
  put_next {w} h e =
      let t : take (i + 1) vs ≡ take i vs ++ (w ∷ []) = rw (add-one, ← e) (take-suc vs i 0 (omega arith)) in
      let l : length (take i vs) ≡ i = length-take-le i vs (omega arith) in
      record {
        count = p.count;
        inside = omega arith;
        same = rw (p.same, t) (sym (sets-append (take i vs) (w ∷ []) old at ∙ rw l));
        long = length-set out (at + i) w ∙ p.long;
      }

pub block_at : (bs : List ℕ) (i n k : ℕ) → k < n → get_or (block bs i n) k 0 ≡ get_or bs (i + k) 0
block_at bs i n k h = get_or-take n (drop i bs) k 0 h ∙ get_or-drop i bs k 0

-- a block that is put at the front of other bytes, and from there at a place
pub put_through : (bs mid old : List ℕ) (at i n : ℕ) → i + n ≤ length bs → n ≤ length mid → {one two : List ℕ}
    → one ≡ sets mid 0 (block bs i n) → two ≡ sets old at (block one 0 n) → two ≡ sets old at (block bs i n)
put_through bs mid old at i n l h x y =
    let c : length (block bs i n) ≡ n = long bs i n l in
    y ∙ rw (x, sets-eq (block bs i n) mid 0 (omega arith), take_at (block bs i n) _ n c)

---- What goes with a packet ----------------------------------------------------------------------------------------------------

-- a block of 64 is its first n bytes and the others
pub block_split : (part : List ℕ) (n : ℕ) → n ≤ 64 → take 64 part ≡ take n part ++ drop n (take 64 part)
block_split part n h = sym (rw (take-take n 64 part h) at (take-append-drop n (take 64 part)))

-- nothing goes that is not in the part
pub along-length : (more : Bool) (n : ℕ) (part : List ℕ) → n ≤ length part → length (along more n part) ≤ length part - n
along-length more n part h = by (more && (leb n 64 && leb 64 (length part))) refl
  where
    by : (b : Bool) → more && (leb n 64 && leb 64 (length part)) ≡ b → length (cond b (drop n (take 64 part)) []) ≤ length part - n
    by true e = rw (length-drop, length-take) (omega arith)
    by false e = omega arith

---- The rest of an output ------------------------------------------------------------------------------------------------------

-- what is put into the bytes from a on is put into the whole, a further on
sets-drop : (vs xs : List ℕ) (a i : ℕ) → take a xs ++ sets (drop a xs) i vs ≡ sets xs (a + i) vs
sets-drop [] xs a i = take-append-drop a xs
sets-drop (v ∷ vs) xs a i =
    rw (← take-set-le a xs (a + i) v (omega arith), ← drop-set-add a xs i v, ← add-suc a i) (sets-drop vs (set xs (a + i) v) a (suc i))

-- the rest is lent from a to the end, and comes back so
pub lent-rest : (xs vs : List ℕ) (a : ℕ) {ys : List ℕ} → ys ≡ sets (take (length xs - a) (drop a xs)) 0 vs
    → take a xs ++ (ys ++ drop (length xs - a) (drop a xs)) ≡ sets xs a vs
lent-rest xs vs a e =
    let l : length (drop a xs) ≡ length xs - a = length-drop a xs in
    let t : take (length xs - a) (drop a xs) ≡ drop a xs = take_all (length xs - a) (drop a xs) (omega arith) in
    let d : drop (length xs - a) (drop a xs) ≡ [] = drop_of_length-le (drop a xs) {i = length xs - a} (omega arith) in
    rw (e, t, d, append-nil) (sets-drop vs xs a 0 ∙ rw add-zero)

---- One run behind another -----------------------------------------------------------------------------------------------------

-- two runs, and what is put behind them
pub sets_behind : (r m v xs : List ℕ) (q : ℕ) {k : ℕ} → q + length (r ++ m) ≡ k → sets xs q (r ++ (m ++ v)) ≡ sets (sets xs q (r ++ m)) k v
sets_behind r m v xs q l = ap (sets xs q) (sym (append_assoc r m v)) ∙ sets-append (r ++ m) v xs q ∙ ap (λ i. sets (sets xs q (r ++ m)) i v) l

---- A run within a run ---------------------------------------------------------------------------------------------------------

pub set_before : (ws xs : List ℕ) (a j v : ℕ) → a < j → set (sets xs j ws) a v ≡ sets (set xs a v) j ws
set_before [] xs a j v h = refl
set_before (w ∷ ws) xs a j v h =
    set_before ws (set xs j w) a (suc j) v (omega arith) ∙ rw (set_comm xs j a w v (λ e. omega arith))

set_within : (hs xs : List ℕ) (a i v : ℕ) → i < length hs → set (sets xs a hs) (a + i) v ≡ sets xs a (set hs i v)
set_within [] xs a i v h = absurd (omega arith)
set_within (x ∷ hs) xs a zero v h = rw (add-zero a, set_before hs (set xs a x) a (suc a) v (omega arith), set-set)
set_within (x ∷ hs) xs a (suc i) v h = rw (add-suc a i, ← suc-add a i) (set_within hs (set xs a x) (suc a) i v (omega arith))

pub sets-within : (vs hs xs : List ℕ) (a i : ℕ) → i + length vs ≤ length hs → sets (sets xs a hs) (a + i) vs ≡ sets xs a (sets hs i vs)
sets-within [] hs xs a i h = refl
sets-within (v ∷ vs) hs xs a i h =
    let l : length (set hs i v) ≡ length hs = length-set hs i v in
    rw (set_within hs xs a i v (omega arith), ← add-suc a i) (sets-within vs (set hs i v) xs a (suc i) (omega arith))

pub at_front : (vs hs xs : List ℕ) (i : ℕ) → i + length vs ≤ length hs → sets (sets xs 0 hs) i vs ≡ sets xs 0 (sets hs i vs)
at_front vs hs xs i h = ap (λ k. sets (sets xs 0 hs) k vs) (sym (zero-add i)) ∙ sets-within vs hs xs 0 i h
