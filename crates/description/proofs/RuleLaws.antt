-- Where a block that is not well made is refused: each line follows from the one rule.
use Prim.Native.Nat.{ℕ}
use mathlib.Core.Path.{◌≡◌, refl, sym, ap, ◌∙◌}
use mathlib.Core.Bool.{Bool, true, false}
use mathlib.Core.Option.{Option, none, some, none-ne-some}
use mathlib.Core.List.{List, [], ◌∷◌, ◌++◌}
use Rattle.words.specs.Words.{same}
use Rattle.words.proofs.SameLaws.{same_true}
use Rattle.keywords.specs.declared.Side.{Side}
use Rattle.keywords.specs.declared.Side.TheVariants.{Cmd, Res}
use Rattle.keywords.specs.Tables.{Text, begin, end, xcp_on_usb, name, plain, ordinary, number, header, transfer, packing, alignment}
use Rattle.keywords.proofs.TableLaws.{to-plain}
use Rattle.description.specs.declared.Endpoint.{Endpoint}
use Rattle.description.specs.declared.Said.{Said}
use Rattle.description.specs.Block.{Any, Over, EndpointBlock, Entries, Block}
use Rattle.description.specs.Standing.{Stops}
use Rattle.description.specs.Reading.{Found, has, put, State, step, on}
use Rattle.description.proofs.BlockLaws.{Adds, found, step-begin, step-name, step-entry, step-endpoint, step_second, over-on, parameters-on}
use Rattle.description.proofs.BlockLaws.{opening_on, entries-on, reads}
use Rattle.description.proofs.StandingLaws.{on-append, stops}

-- the words of a block up to where an entry or its /end is to come, with the endpoints so far
pub data Begun (h : ℕ) (c r : Option Endpoint) : List Text → Type 0 where
  begun : {a b d e w : Text} {ws : List Text} → Any number a → Any number b → Any number d → Any number e → header w ≡ some h
      → Entries [] c r ws → Begun h c r (begin ∷ xcp_on_usb ∷ a ∷ b ∷ d ∷ e ∷ w ∷ ws)

adds : (c : Option Endpoint) → Adds none c c
adds none = Adds.before
adds (some e) = Adds.added

begun-on : {h : ℕ} {c r : Option Endpoint} {us : List Text} → Begun h c r us → on (some State.first) us ≡ some (State.inside (found h c r) [])
begun-on {h} {c} {r} (begun {a = a} {b = b} {d = d} {e = e} {w = w} {ws = ws} (i, ha) (j, hb) (k, hd) (l, he) hw es) =
    opening_on a b d e w ws ha hb hd he hw ∙ entries-on h es (adds c) (adds r)

-- the words behind them go on from there
behind-on : {h : ℕ} {c r : Option Endpoint} {us : List Text} → Begun h c r us → (ws : List Text)
    → on (some State.first) (us ++ ws) ≡ on (some (State.inside (found h c r) [])) ws
behind-on {us = us} b ws = on-append (some State.first) us ws ∙ ap (λ o. on o ws) (begun-on b)

-- the endpoint of a side, of those found so far
abbrev pub endpoint_of : Side → (c r : Option Endpoint) → Option Endpoint
endpoint_of Cmd c r = c
endpoint_of Res c r = r

has_found : (k : Side) (h : ℕ) (c r : Option Endpoint) → has k (found h c r) ≡ endpoint_of k c r
has_found Cmd h c r = refl
has_found Res h c r = refl

-- /end, where an endpoint is missing
step_missing : (k : Side) (h : ℕ) (c r : Option Endpoint) → endpoint_of k c r ≡ none → step (State.inside (found h c r) []) end ≡ none
unfolding step
step_missing Cmd h c r u = rw u
step_missing Res h none r u = refl
step_missing Res h (some c) r u = rw u

module _ {h : ℕ} {c r : Option Endpoint} {us : List Text} (b : Begun h c r us) where
  -- a second endpoint is refused at its name
  pub second : (k : Side) {e : Endpoint} → endpoint_of k c r ≡ some e → Stops (us ++ (begin ∷ [])) (name k)
  unfolding step
  second k u = stops (behind-on b (begin ∷ [])) (step_second k (found h c r) (has_found k h c r ∙ u))

  -- a missing endpoint at the block's closing /end
  pub missing : (k : Side) → endpoint_of k c r ≡ none → Stops us end
  missing k u = stops (begun-on b) (step_missing k h c r u)

-- a wrong name behind the block's closing /end at that name
pub wrong-last : {h : ℕ} {c r : Endpoint} {us : List Text} (m : Text) → Begun h (some c) (some r) us → same m xcp_on_usb ≡ false
    → Stops (us ++ (end ∷ [])) m
unfolding step
wrong-last m b d = stops (behind-on b (end ∷ [])) (rw d)

---- Blocks that are open -------------------------------------------------------------------------------------------------------

-- the words us leave blocks of these names open among the entries, the innermost first
pub data Opened : List Text → List Text → Type 0 where
  paired : {h : ℕ} {c r : Option Endpoint} {us : List Text} (n : Text) → Begun h c r us → ordinary n ≡ true
      → Opened (n ∷ []) (us ++ (begin ∷ n ∷ []))
  endpoint : {h : ℕ} {c r : Option Endpoint} {us : List Text} (k : Side) (a b m d p l : Text) → Begun h c r us → endpoint_of k c r ≡ none
      → Any number a → Any transfer b → Any number m → Any number d → Any packing p → Any alignment l
      → Opened (name k ∷ []) (us ++ (begin ∷ name k ∷ a ∷ b ∷ m ∷ d ∷ p ∷ l ∷ []))
  -- another block inside the innermost; words and whole blocks there
  inner : {m : Text} {ns us : List Text} (n : Text) → Opened (m ∷ ns) us → plain n ≡ true → Opened (n ∷ m ∷ ns) (us ++ (begin ∷ n ∷ []))
  over : {n : Text} {ns us ws : List Text} → Opened (n ∷ ns) us → Over [] ws → Opened (n ∷ ns) (us ++ ws)

-- what is known behind them
record OpenAt (ns us : List Text) : Type 0 where
  so_far : Found
  is : on (some State.first) us ≡ some (State.inside so_far ns)

-- .. and behind further words
then-on : {ns us : List Text} (o : OpenAt ns us) (ws : List Text) → on (some State.first) (us ++ ws) ≡ on (some (State.inside o.so_far ns)) ws
then-on {us = us} o ws = on-append (some State.first) us ws ∙ ap (λ s. on s ws) o.is

open_at : {ns us : List Text} → Opened ns us → OpenAt ns us
open_at (Opened.paired {h = h} {c = c} {r = r} n b e) =
    let f = found h c r in
    record { so_far = f; is = behind-on b (begin ∷ n ∷ []) ∙ rw (step-begin f [], step-entry f n e) }
open_at (Opened.endpoint {h = h} {c = c} {r = r} k a t m d p l b u (i, ha) (j, ht) (x, hm) (o, hd) (y, hp) (z, hl)) =
    let f = found h c r in
    let e : Endpoint = record { datapacket = x; packing = y; align = z } in
    let s = step-endpoint k f (has_found k h c r ∙ u) in
    let q = parameters-on k f e a t m d p l [] ha ht hm hd hp hl in
    record { so_far = put k e f; is = behind-on b (begin ∷ name k ∷ a ∷ t ∷ m ∷ d ∷ p ∷ l ∷ []) ∙ rw (step-begin f [], s) q }
open_at (Opened.inner {m = m} {ns = ns} n o e) =
    let w = open_at o in
    let f = w.so_far in
    record { so_far = f; is = then-on w (begin ∷ n ∷ []) ∙ rw (step-begin f (m ∷ ns), step-name f m ns n e) }
open_at (Opened.over {n = n} {ns = ns} {ws = ws} o v) =
    let w = open_at o in
    record { so_far = w.so_far; is = then-on w ws ∙ over-on w.so_far n ns v }

-- a wrong name behind a block's /end at that name
pub wrong_name : {n : Text} {ns us : List Text} (m : Text) → Opened (n ∷ ns) us → same m n ≡ false → Stops (us ++ (end ∷ [])) m
unfolding step
wrong_name m o d = stops (then-on (open_at o) (end ∷ [])) (rw d)

---- Behind the block -----------------------------------------------------------------------------------------------------------

-- a word behind the block at that word
pub behind : {x : Said} {ws : List Text} {w : Text} → Block x ws → Stops ws w
unfolding step
behind {x} b = stops (reads x b) refl

---- An endpoint inside another block -------------------------------------------------------------------------------------------

-- a word is read over if it is of a kind that /begin and /end are not of
over-kind : (kind : Text → Option ℕ) {w : Text} {n : ℕ} {vs ws : List Text} → kind begin ≡ none → kind end ≡ none
    → kind w ≡ some n → Over vs ws → Over vs (w ∷ ws)
over-kind kind {w} {n} b e h o = Over.word (to-plain w (by begin b (same w begin) refl) (by end e (same w end) refl)) o
  where
    by : (v : Text) → kind v ≡ none → (x : Bool) → same w v ≡ x → x ≡ false
    by v k false q = refl
    by v k true q = absurd (none-ne-some n (sym k ∙ ap kind (sym (same_true w v q)) ∙ h))

name-plain : (k : Side) → plain (name k) ≡ true
name-plain Cmd = refl
name-plain Res = refl

-- the block of an endpoint is a paired block: where blocks are read over it is read over, and says nothing
pub endpoint-over : {k : Side} {e : Endpoint} {vs us ws : List Text} → EndpointBlock k e us ws → Over vs us → Over vs ws
unfolding number transfer packing alignment
endpoint-over {k} (EndpointBlock.endpoint (i, ha) (j, hb) hc (l, hd) hp hl o) r =
    let p = over-kind packing refl refl hp (over-kind alignment refl refl hl o) in
    let n = over-kind number refl refl hc (over-kind number refl refl hd p) in
    Over.paired (name-plain k) (over-kind number refl refl ha (over-kind transfer refl refl hb n)) r
