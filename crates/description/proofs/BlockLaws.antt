-- The reader takes exactly the blocks, with what they say.
use Prim.Native.Nat.{ℕ}
use mathlib.Core.Path.{◌≡◌, refl, ◌∙◌}
use mathlib.Core.Bool.{true}
use mathlib.Core.Option.{Option, none, some}
use mathlib.Core.List.{List, [], ◌∷◌}
use Rattle.words.proofs.SameLaws.{same_refl}
use Rattle.keywords.specs.declared.Side.{Side}
use Rattle.keywords.specs.declared.Side.TheVariants.{Cmd, Res}
use Rattle.keywords.specs.Tables.{Text, begin, end, xcp_on_usb, name, plain, ordinary}
use Rattle.keywords.specs.Tables.{number, header, transfer, packing, alignment}
use Rattle.description.specs.declared.Endpoint.{Endpoint}
use Rattle.description.specs.declared.Said.{Said}
use Rattle.description.specs.Block.{Over, EndpointBlock, Entries, Block}
use Rattle.description.specs.Reading.{Found, has, put, State, step, on}
use Rattle.keywords.proofs.TableLaws.{Plain, plain-is, Ordinary, ordinary-is}

-- what was found before and what is found now is, taken together, this
pub data Adds : Option Endpoint → Option Endpoint → Option Endpoint → Type 0 where
  before : {a : Option Endpoint} → Adds a none a
  added : {e : Endpoint} → Adds none (some e) (some e)

abbrev pub found : ℕ → Option Endpoint → Option Endpoint → Found
found h c r = record { header = h; cmd = c; res = r }

---- From the grammar to the reader ---------------------------------------------------------------------------------------------

module _ (f : Found) where
  step-word : (ns : List Text) (w : Text) → plain w ≡ true → step (State.inside f ns) w ≡ some (State.inside f ns)
  unfolding step
  step-word ns w e = let p : Plain w = plain-is e in rw (p.unbegin, p.unend)

  pub step-begin : (ns : List Text) → step (State.inside f ns) begin ≡ some (State.begun f ns)
  unfolding step
  step-begin ns = refl

  pub step-name : (m : Text) (ns : List Text) (n : Text) → plain n ≡ true → step (State.begun f (m ∷ ns)) n ≡ some (State.inside f (n ∷ m ∷ ns))
  unfolding step
  step-name m ns n e = rw e

  end_on : (n : Text) (ns us : List Text) → on (some (State.inside f (n ∷ ns))) (end ∷ n ∷ us) ≡ on (some (State.inside f ns)) us
  unfolding step
  end_on n ns us = rw (same_refl n)

  pub step-entry : (n : Text) → ordinary n ≡ true → step (State.begun f []) n ≡ some (State.inside f (n ∷ []))
  unfolding step
  step-entry n e = let o : Ordinary n = ordinary-is e in rw (o.uncmd, o.unres, o.plain)

  pub over-on : {vs ws : List Text} (n : Text) (ns : List Text) → Over vs ws
      → on (some (State.inside f (n ∷ ns))) ws ≡ on (some (State.inside f (n ∷ ns))) vs
  over-on n ns Over.here = refl
  over-on n ns (Over.word {w = w} e r) = rw (step-word (n ∷ ns) w e) (over-on n ns r)
  over-on n ns (Over.paired {n = m} {us = us} e i r) =
      rw (step-begin (n ∷ ns), step-name n ns m e) (over-on m (n ∷ ns) i ∙ end_on m (n ∷ ns) us ∙ over-on n ns r)

-- an endpoint that was not found before, and one that was
pub step-endpoint : (k : Side) (f : Found) → has k f ≡ none → step (State.begun f []) (name k) ≡ some (State.endpoint k f)
unfolding step
step-endpoint Cmd f u = rw u
step-endpoint Res f u = rw u

pub step_second : (k : Side) (f : Found) {e : Endpoint} → has k f ≡ some e → step (State.begun f []) (name k) ≡ none
unfolding step
step_second Cmd f u = rw u
step_second Res f u = rw u

pub parameters-on : (k : Side) (f : Found) (e : Endpoint) (a b c d p l : Text) {n t i : ℕ} (ws : List Text) → number a ≡ some n → transfer b ≡ some t
    → number c ≡ some e.datapacket → number d ≡ some i → packing p ≡ some e.packing → alignment l ≡ some e.align
    → on (some (State.endpoint k f)) (a ∷ b ∷ c ∷ d ∷ p ∷ l ∷ ws) ≡ on (some (State.inside (put k e f) (name k ∷ []))) ws
unfolding step
parameters-on k f e a b c d p l ws ha hb hc hd hp hl = rw (ha, hb, hc, hd, hp, hl)

endpoint-on : {vs ws : List Text} (k : Side) (f : Found) (e : Endpoint) → has k f ≡ none → EndpointBlock k e vs ws
    → on (some (State.inside f [])) ws ≡ on (some (State.inside (put k e f) [])) vs
endpoint-on {vs} k f e u (EndpointBlock.endpoint {a = a} {b = b} {c = c} {d = d} {p = p} {l = l} {ws = ws} (n, ha) (t, hb) hc (i, hd) hp hl o) =
    rw (step-begin f [], step-endpoint k f u)
    (parameters-on k f e a b c d p l ws ha hb hc hd hp hl ∙ over-on (put k e f) (name k) [] o ∙ end_on (put k e f) (name k) [] vs)

pub entries-on : (h : ℕ) {vs ws : List Text} {a b c r x y : Option Endpoint} → Entries vs c r ws → Adds a c x → Adds b r y
    → on (some (State.inside (found h a b) [])) ws ≡ on (some (State.inside (found h x y) [])) vs
entries-on h Entries.here Adds.before Adds.before = refl
entries-on h {a = a} {b = b} (Entries.word {w = w} e l) i j = rw (step-word (found h a b) [] w e) (entries-on h l i j)
entries-on h {a = a} {b = b} (Entries.paired {n = n} {us = us} e o l) i j =
    rw (step-begin (found h a b) [], step-entry (found h a b) n e)
    (over-on (found h a b) n [] o ∙ end_on (found h a b) n [] us ∙ entries-on h l i j)
entries-on h {b = b} (Entries.cmd {e = e} o l) Adds.added j = endpoint-on Cmd (found h none b) e refl o ∙ entries-on h l Adds.before j
entries-on h {a = a} (Entries.res {e = e} o l) i Adds.added = endpoint-on Res (found h a none) e refl o ∙ entries-on h l i Adds.before

pub opening_on : (a b c d w : Text) {i j k l h : ℕ} (ws : List Text) → number a ≡ some i → number b ≡ some j → number c ≡ some k
    → number d ≡ some l → header w ≡ some h
    → on (some State.first) (begin ∷ xcp_on_usb ∷ a ∷ b ∷ c ∷ d ∷ w ∷ ws) ≡ on (some (State.inside (found h none none) [])) ws
unfolding step
opening_on a b c d w ws ha hb hc hd hw = rw (ha, hb, hc, hd, hw)

-- a block is read, with what it says
pub reads : (x : Said) {ws : List Text} → Block x ws → on (some State.first) ws ≡ some (State.done x)
unfolding step
reads x (Block.block {a = a} {b = b} {c = c} {d = d} {h = w} {ws = ws} (i, ha) (j, hb) (k, hc) (l, hd) hw es) =
    opening_on a b c d w ws ha hb hc hd hw ∙ entries-on x.header es Adds.added Adds.added
