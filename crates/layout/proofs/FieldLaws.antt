-- The laws of fields: each is over the width, and over any list of fields.
use Prim.Native.Nat.{ℕ, zero, suc, ◌+◌, ◌/◌, ◌%◌, ◌^◌, ◌<◌, ◌≤◌}
use native.Mathlib.Omega.{arith}
use native.Mathlib.Nat.{zero-add, add-zero, add-suc}
use mathlib.Core.Path.{◌≡◌, refl, sym, ap, ◌∙◌}
use mathlib.Core.Bool.{Bool, true, false, cond}
use mathlib.Core.List.{List, [], ◌∷◌, ◌++◌, append_assoc, append-nil}
use lib.ListN.{length, get_or, take, drop, length-append, length-take, length-replicate, get_or-append}
use lib.Seq.{sets, sets-eq, get_or-drop, get_or-append-add}
use borrow.Author.Tests.{eqb-true}
use Rattle.layout.specs.Field.{Name, Field, code, is, size, place, width, number_at, bytes, says, put, puts}
use Rattle.layout.specs.Field.{Name.NAX, Name.LEN, Name.CTR, Name.FILL, Field.◌of◌}

-- a field lies inside its header
pub inside : (k : Name) (fs : List Field) → place k fs + width k fs ≤ size fs
inside k [] = omega arith
inside k (j of w ∷ fs) = at (is k j) (inside k fs)
  where
    at : (b : Bool) → place k fs + width k fs ≤ size fs → cond b 0 (w + place k fs) + cond b w (width k fs) ≤ w + size fs
    at true h = omega arith
    at false h = omega arith

-- what is read at a place of a part is what is read in the whole
pub number-drop : (w a i : ℕ) (t : List ℕ) → number_at w (drop a t) i ≡ number_at w t (a + i)
number-drop zero a i t = refl
number-drop (suc w) a i t = rw (get_or-drop, number-drop w a (suc i) t, add-suc)

pub number-left : (w i : ℕ) (h r : List ℕ) → i + w ≤ length h → number_at w (h ++ r) i ≡ number_at w h i
number-left zero i h r e = refl
number-left (suc w) i h r e = rw (get_or-append h r 0 i (omega arith), number-left w (suc i) h r (omega arith))

number-right : (w i : ℕ) (h r : List ℕ) → number_at w (h ++ r) (length h + i) ≡ number_at w r i
number-right zero i h r = refl
number-right (suc w) i h r = rw (get_or-append-add, ← add-suc (length h) i, number-right w (suc i) h r)

number-at : (w i n : ℕ) (h r : List ℕ) → length h ≡ n → number_at w (h ++ r) (n + i) ≡ number_at w r i
number-at w i n h r e = rw (← e) (number-right w i h r)

number_cons : (w i x : ℕ) (t : List ℕ) → number_at w (x ∷ t) (suc i) ≡ number_at w t i
number_cons zero i x t = refl
number_cons (suc w) i x t = rw (number_cons w (suc i) x t)

-- what a header's field says, read in the whole input and in the bytes h that stand at q
pub says_here : (k : Name) (fs : List Field) (q : ℕ) (t h r : List ℕ) → size fs ≤ length h → h ++ r ≡ drop q t → says k fs t q ≡ says k fs h 0
says_here k fs q t h r b e =
    rw (← number-drop (width k fs) q (place k fs) t, ← e, number-left (width k fs) (place k fs) h r (omega (arith, inside k fs)), zero-add)

-- and in the bytes that are left at q
pub says-drop : (k : Name) (fs : List Field) (q : ℕ) (t : List ℕ) → says k fs (drop q t) 0 ≡ says k fs t q
says-drop k fs q t = number-drop (width k fs) q (0 + place k fs) t ∙ rw zero-add

-- what was written is read back, at every width
pub number-bytes : (w n : ℕ) (r : List ℕ) → n < 256 ^ w → number_at w (bytes w n ++ r) 0 ≡ n
number-bytes zero n r h = omega arith
number-bytes (suc w) n r h = rw (number_cons w 0 (n % 256) (bytes w (n / 256) ++ r), number-bytes w (n / 256) r (omega arith)) (omega arith)

pub length-bytes : (w n : ℕ) → length (bytes w n) ≡ w
length-bytes zero n = refl
length-bytes (suc w) n = ap suc (length-bytes w (n / 256))

-- and so it is where it was put into other bytes
pub number-sets : (w i n : ℕ) (t : List ℕ) → i + w ≤ length t → n < 256 ^ w → number_at w (sets t i (bytes w n)) i ≡ n
number-sets w i n t l h =
    let b : length (bytes w n) ≡ w = length-bytes w n in
    let a : length (take i t) ≡ i = rw length-take (omega arith) in
    let z : number_at w (take i t ++ (bytes w n ++ drop (i + length (bytes w n)) t)) (i + 0) ≡ n =
    number-at w 0 i (take i t) (bytes w n ++ drop (i + length (bytes w n)) t) a ∙ number-bytes w n (drop (i + length (bytes w n)) t) h in
    rw (sets-eq (bytes w n) t i (omega arith)) (simp append_assoc (rw add-zero at z))

length-put : (v : Name → ℕ) (f : ℕ) (k : Name) (w : ℕ) → length (put v f k w) ≡ w
length-put v f NAX w = length-bytes w (v NAX)
length-put v f LEN w = length-bytes w (v LEN)
length-put v f CTR w = length-bytes w (v CTR)
length-put v f FILL w = length-replicate w f

pub length-puts : (v : Name → ℕ) (f : ℕ) (fs : List Field) → length (puts v f fs) ≡ size fs
length-puts v f [] = refl
length-puts v f (k of w ∷ fs) = rw (length-append, length-put, length-puts v f fs)

kinds : List Name
kinds = NAX ∷ LEN ∷ CTR ∷ FILL ∷ []

code_back : (k : Name) → get_or kinds (code k) FILL ≡ k
unfolding kinds
code_back NAX = refl
code_back LEN = refl
code_back CTR = refl
code_back FILL = refl

is_same : (k j : Name) → is k j ≡ true → k ≡ j
is_same k j e = sym (code_back k) ∙ ap (λ n. get_or kinds n FILL) (eqb-true (code k) (code j) e) ∙ code_back j

put-number : (v : Name → ℕ) (f : ℕ) (k : Name) (w : ℕ) → is k FILL ≡ false → put v f k w ≡ bytes w (v k)
put-number v f NAX w e = refl
put-number v f LEN w e = refl
put-number v f CTR w e = refl
put-number v f FILL w e = let z : ◌≡◌ {A = ℕ} 0 1 = cc in absurd (omega arith)

-- a header says what was written in it
says-puts-before : (v : Name → ℕ) (f : ℕ) (k : Name) → is k FILL ≡ false
    → (fs : List Field) (r : List ℕ) → 0 < width k fs → v k < 256 ^ width k fs → says k fs (puts v f fs ++ r) 0 ≡ v k
says-puts-before v f k nf [] r h b = absurd (omega arith)
says-puts-before v f k nf (j of w ∷ fs) r h b = at (is k j) refl (says-puts-before v f k nf fs r) h b
  where
    at : (c : Bool) → is k j ≡ c → (0 < width k fs → v k < 256 ^ width k fs → number_at (width k fs) (puts v f fs ++ r) (0 + place k fs) ≡ v k)
        → 0 < cond c w (width k fs) → v k < 256 ^ cond c w (width k fs)
        → number_at (cond c w (width k fs)) (put v f j w ++ puts v f fs ++ r) (0 + cond c 0 (w + place k fs)) ≡ v k
    at true e ih h b =
        rw (← is_same k j e, put-number v f k w nf, append_assoc (bytes w (v k)) (puts v f fs) r) (number-bytes w (v k) (puts v f fs ++ r) b)
    at false e ih h b =
        rw (append_assoc (put v f j w) (puts v f fs) r, zero-add (w + place k fs))
        (number-at (width k fs) (place k fs) w (put v f j w) (puts v f fs ++ r) (length-put v f j w) ∙ rw zero-add at (ih h b))

pub says-puts : (v : Name → ℕ) (f : ℕ) (k : Name) → is k FILL ≡ false
    → (fs : List Field) → 0 < width k fs → v k < 256 ^ width k fs → says k fs (puts v f fs) 0 ≡ v k
says-puts v f k nf fs h b = ap (λ l. says k fs l 0) (sym (append-nil (puts v f fs))) ∙ says-puts-before v f k nf fs [] h b
