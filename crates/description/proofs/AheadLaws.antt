-- From the reader to the grammar: each state in the grammar's terms, as the words that lead from it to the end of a block. A word that the
-- reader takes may be put in front of them.
use Prim.Native.Nat.{ℕ, zero, suc}
use mathlib.Core.Path.{◌≡◌, refl, sym, ap, ◌∙◌, subst, subst₂}
use mathlib.Core.Bool.{Bool, true, false, cond}
use mathlib.Core.Option.{Option, none, some, none-ne-some, some-injective}
use mathlib.Core.List.{List, [], ◌∷◌}
use Rattle.words.specs.Words.{same}
use Rattle.words.proofs.SameLaws.{same_true}
use Rattle.keywords.specs.declared.Side.{Side}
use Rattle.keywords.specs.declared.Side.TheVariants.{Cmd, Res}
use Rattle.keywords.specs.Tables.{Text, begin, end, xcp_on_usb, name, plain, ordinary}
use Rattle.keywords.specs.Tables.{number, header, transfer, packing, alignment}
use Rattle.description.specs.declared.Endpoint.{Endpoint}
use Rattle.description.specs.declared.Said.{Said}
use Rattle.description.specs.Block.{Over, EndpointBlock, Entries, Block}
use Rattle.description.specs.Reading.{Found, put, State, when, given, whole, close, unless_found, step, on}
use Rattle.keywords.proofs.TableLaws.{to-plain, to-ordinary}
use Rattle.description.proofs.BlockLaws.{Adds, found}

-- a word of this kind, and then words that fit what it says
data Takes (kind : Text → Option ℕ) (then : ℕ → List Text → Type 0) : List Text → Type 0 where
  takes : {w : Text} {n : ℕ} {ws : List Text} → kind w ≡ some n → then n ws → Takes kind then (w ∷ ws)

module _ (x : Said) where
  data Inside (f : Found) : List Text → List Text → Type 0 where
    entries : {c r : Option Endpoint} {ws : List Text} → Entries (end ∷ xcp_on_usb ∷ []) c r ws → Adds f.cmd c (some x.cmd)
        → Adds f.res r (some x.res) → f.header ≡ x.header → Inside f [] ws
    over : {n : Text} {ns vs ws : List Text} → Over (end ∷ n ∷ vs) ws → Inside f ns vs → Inside f (n ∷ ns) ws

  module _ (k : Side) (f : Found) where
    abbrev AtAlignment : ℕ → ℕ → List Text → Type 0
    AtAlignment m p = Takes alignment (λ a. Inside (put k (record { datapacket = m; packing = p; align = a }) f) (name k ∷ []))

    abbrev AtPacking : ℕ → List Text → Type 0
    AtPacking m = Takes packing (AtAlignment m)

    abbrev AtInterval : ℕ → List Text → Type 0
    AtInterval m = Takes number (λ _. AtPacking m)

    abbrev AtSize : List Text → Type 0
    AtSize = Takes number AtInterval

    abbrev AtTransfer : List Text → Type 0
    AtTransfer = Takes transfer (λ _. AtSize)

  abbrev Numbers : ℕ → List Text → Type 0
  Numbers zero = Takes header (λ h. Inside (found h none none) [])
  Numbers (suc n) = Takes number (λ _. Numbers n)

  abbrev Ahead : State → List Text → Type 0
  Ahead State.first ws = Block x ws
  Ahead State.named ws = Block x (begin ∷ ws)
  Ahead (State.numbers n) ws = Numbers n ws
  Ahead (State.inside f ns) ws = Inside f ns ws
  Ahead (State.begun f ns) ws = Inside f ns (begin ∷ ws)
  Ahead (State.ended f n ns) ws = Inside f (n ∷ ns) (end ∷ ws)
  Ahead (State.last y) ws = (y ≡ x) × (ws ≡ xcp_on_usb ∷ [])
  Ahead (State.done y) ws = (y ≡ x) × (ws ≡ [])
  Ahead (State.endpoint k f) ws = Takes number (λ _. AtTransfer k f) ws
  Ahead (State.transfers k f) ws = AtTransfer k f ws
  Ahead (State.size k f) ws = AtSize k f ws
  Ahead (State.interval k f m) ws = AtInterval k f m ws
  Ahead (State.packings k f m) ws = AtPacking k f m ws
  Ahead (State.alignments k f m p) ws = AtAlignment k f m p ws

---- What a step that is taken tells --------------------------------------------------------------------------------------------

data Given (s : ℕ → State) (r : State) : Option ℕ → Type 0 where
  gives : {n : ℕ} → s n ≡ r → Given s r (some n)

is-given : (o : Option ℕ) (s : ℕ → State) {r : State} → given o s ≡ some r → Given s r o
is-given none s {r} e = absurd (none-ne-some r e)
is-given (some n) s {r} e = gives (some-injective (s n) r e)

is-when : (b : Bool) (s : State) {r : State} → when b s ≡ some r → (b ≡ true) × (s ≡ r)
is-when true s {r} e = (refl, some-injective s r e)
is-when false s {r} e = absurd (none-ne-some r e)

is_new : (o : Option Endpoint) (s : State) {r : State} → unless_found o s ≡ some r → (o ≡ none) × (s ≡ r)
is_new none s {r} e = (refl, some-injective s r e)
is_new (some k) s {r} e = absurd (none-ne-some r e)

-- a word of a kind in front of the words that fit it
take-kind : (x : Said) (kind : Text → Option ℕ) (w : Text) (s : ℕ → State) {r : State} {ws : List Text} → given (kind w) s ≡ some r
    → Ahead x r ws → Takes kind (λ n. Ahead x (s n)) (w ∷ ws)
take-kind x kind w s {r} {ws} e h = at (kind w) refl (is-given (kind w) s e)
  where
    at : (o : Option ℕ) → kind w ≡ o → Given s r o → Takes kind (λ n. Ahead x (s n)) (w ∷ ws)
    at o f (gives {n = n} g) = takes f (subst (λ r. Ahead x r ws) (sym g) h)

added : {c : Option Endpoint} {d : Endpoint} → Adds none c (some d) → c ≡ some d
added Adds.added = refl

kept : {c : Option Endpoint} {e d : Endpoint} → Adds (some e) c (some d) → (c ≡ none) × (e ≡ d)
kept Adds.before = (refl, refl)

now_is : {a : Option Endpoint} {e d : Endpoint} → a ≡ none → e ≡ d → Adds a (some e) (some d)
now_is {a} {e} {d} u v = rw (u, v) Adds.added

-- behind a word that cannot stand nothing is known
pub none-on : (ws : List Text) → on none ws ≡ none
none-on [] = refl
none-on (w ∷ ws) = none-on ws

---- Each state -----------------------------------------------------------------------------------------------------------------

module _ (x : Said) where
  opened : {ws : List Text} → Numbers x 4 ws → Block x (begin ∷ xcp_on_usb ∷ ws)
  opened (takes {n = a} ha (takes {n = b} hb (takes {n = c} hc (takes {n = d} hd (takes {ws = ws} hw (entries es i j e)))))) =
      Block.block (a, ha) (b, hb) (c, hc) (d, hd) (hw ∙ ap some e)
      (subst₂ (λ c r. Entries (end ∷ xcp_on_usb ∷ []) c r ws) (added i) (added j) es)

  endpoint-cmd : {f : Found} {ws : List Text} → f.cmd ≡ none → Ahead x (State.endpoint Cmd f) ws → Inside x f [] (begin ∷ name Cmd ∷ ws)
  endpoint-cmd u (takes {n = a} ha (takes {n = b} hb (takes hc (takes {n = d} hd (takes hp (takes hl (over o (entries es i j e)))))))) =
      let (z, v) = kept i in
      entries (Entries.cmd (EndpointBlock.endpoint (a, ha) (b, hb) hc (d, hd) hp hl o) (rw z at es)) (now_is u v) j e

  endpoint-res : {f : Found} {ws : List Text} → f.res ≡ none → Ahead x (State.endpoint Res f) ws → Inside x f [] (begin ∷ name Res ∷ ws)
  endpoint-res u (takes {n = a} ha (takes {n = b} hb (takes hc (takes {n = d} hd (takes hp (takes hl (over o (entries es i j e)))))))) =
      let (z, v) = kept j in
      entries (Entries.res (EndpointBlock.endpoint (a, ha) (b, hb) hc (d, hd) hp hl o) (rw z at es)) i (now_is u v) e

  -- a single word
  inside-word : {f : Found} {ns ws : List Text} {w : Text} → plain w ≡ true → Inside x f ns ws → Inside x f ns (w ∷ ws)
  inside-word e (entries es i j k) = entries (Entries.word e es) i j k
  inside-word e (over o r) = over (Over.word e o) r

  -- a paired block
  inside-entry : {f : Found} {ws : List Text} {n : Text} → ordinary n ≡ true → Inside x f (n ∷ []) ws → Inside x f [] (begin ∷ n ∷ ws)
  inside-entry e (over o (entries es i j k)) = entries (Entries.paired e o es) i j k

  inside-paired : {f : Found} {m : Text} {ns ws : List Text} {n : Text} → plain n ≡ true → Inside x f (n ∷ m ∷ ns) ws
      → Inside x f (m ∷ ns) (begin ∷ n ∷ ws)
  inside-paired e (over o (over p r)) = over (Over.paired e o p) r

  -- the block's own /end
  inside-whole : (h : ℕ) (c r : Option Endpoint) {s : State} {ws : List Text} → whole h c r ≡ some s → Ahead x s ws
      → Inside x (found h c r) [] (end ∷ ws)
  inside-whole h none r {s} e a = absurd (none-ne-some s e)
  inside-whole h (some c) none {s} e a = absurd (none-ne-some s e)
  inside-whole h (some c) (some r) {s} {ws} e a =
      let y : Said = record { header = h; cmd = c; res = r } in
      let k : State.last y ≡ s = some-injective (State.last y) s e in
      let (p, q) = subst (λ s. Ahead x s ws) (sym k) a in
      rw q (subst (λ z. Inside z (found h (some c) (some r)) [] (end ∷ xcp_on_usb ∷ [])) p (entries Entries.here Adds.before Adds.before refl))

  inside-close : (f : Found) (ns : List Text) {s : State} {ws : List Text} → close f ns ≡ some s → Ahead x s ws → Inside x f ns (end ∷ ws)
  inside-close f [] e a = inside-whole f.header f.cmd f.res e a
  inside-close f (n ∷ ns) {s} {ws} e a = subst (λ s. Ahead x s ws) (sym (some-injective (State.ended f n ns) s e)) a

  inside-step : (f : Found) (ns : List Text) (w : Text) {s : State} {ws : List Text} → step (State.inside f ns) w ≡ some s → Ahead x s ws
      → Inside x f ns (w ∷ ws)
  unfolding step
  inside-step f ns w {s} {ws} = at (same w begin) (same w end) refl refl
    where
      at : (a b : Bool) → same w begin ≡ a → same w end ≡ b
          → cond a (some (State.begun f ns)) (cond b (close f ns) (some (State.inside f ns))) ≡ some s → Ahead x s ws → Inside x f ns (w ∷ ws)
      at true b g h e r =
          rw (same_true w begin g) (subst (λ s. Ahead x s ws) (sym (some-injective (State.begun f ns) s e)) r)
      at false true g h e r = rw (same_true w end h) (inside-close f ns e r)
      at false false g h e r = inside-word (to-plain w g h) (subst (λ s. Ahead x s ws) (sym (some-injective (State.inside f ns) s e)) r)

  begun-step : (f : Found) (w : Text) {s : State} {ws : List Text} → step (State.begun f []) w ≡ some s → Ahead x s ws
      → Inside x f [] (begin ∷ w ∷ ws)
  unfolding step
  begun-step f w {s} {ws} = at (same w (name Cmd)) (same w (name Res)) refl refl
    where
      at : (a b : Bool) → same w (name Cmd) ≡ a → same w (name Res) ≡ b
          → cond a (unless_found f.cmd (State.endpoint Cmd f))
          (cond b (unless_found f.res (State.endpoint Res f)) (when (plain w) (State.inside f (w ∷ [])))) ≡ some s
          → Ahead x s ws → Inside x f [] (begin ∷ w ∷ ws)
      at true b g h e r =
          let (u, k) = is_new f.cmd (State.endpoint Cmd f) e in
          rw (same_true w (name Cmd) g) (endpoint-cmd u (subst (λ s. Ahead x s ws) (sym k) r))
      at false true g h e r =
          let (u, k) = is_new f.res (State.endpoint Res f) e in
          rw (same_true w (name Res) h) (endpoint-res u (subst (λ s. Ahead x s ws) (sym k) r))
      at false false g h e r =
          let (u, k) = is-when (plain w) (State.inside f (w ∷ [])) e in
          inside-entry (to-ordinary w u g h) (subst (λ s. Ahead x s ws) (sym k) r)

  -- a step that is taken puts its word in front
  back : (s : State) (w : Text) (ws : List Text) {r : State} → step s w ≡ some r → Ahead x r ws → Ahead x s (w ∷ ws)
  unfolding step
  back State.first w ws e a =
      let (u, k) = is-when (same w begin) State.named e in
      rw (same_true w begin u) (subst (λ s. Ahead x s ws) (sym k) a)
  back State.named w ws e a =
      let (u, k) = is-when (same w xcp_on_usb) (State.numbers 4) e in
      rw (same_true w xcp_on_usb u) (opened (subst (λ s. Ahead x s ws) (sym k) a))
  back (State.numbers zero) w ws e a = take-kind x header w (λ h. State.inside (found h none none) []) e a
  back (State.numbers (suc n)) w ws e a = take-kind x number w (λ _. State.numbers n) e a
  back (State.inside f ns) w ws e a = inside-step f ns w e a
  back (State.begun f []) w ws e a = begun-step f w e a
  back (State.begun f (n ∷ ns)) w ws e a =
      let (u, k) = is-when (plain w) (State.inside f (w ∷ n ∷ ns)) e in
      inside-paired u (subst (λ s. Ahead x s ws) (sym k) a)
  back (State.ended f n ns) w ws e a =
      let (u, k) = is-when (same w n) (State.inside f ns) e in
      rw (same_true w n u) (over Over.here (subst (λ s. Ahead x s ws) (sym k) a))
  back (State.last y) w ws e a =
      let (u, k) = is-when (same w xcp_on_usb) (State.done y) e in
      let (p, q) = subst (λ s. Ahead x s ws) (sym k) a in
      let v : w ≡ xcp_on_usb = same_true w xcp_on_usb u in
      (p, rw (q, v))
  back (State.done y) w ws {r} e a = absurd (none-ne-some r e)
  back (State.endpoint k f) w ws e a = take-kind x number w (λ _. State.transfers k f) e a
  back (State.transfers k f) w ws e a = take-kind x transfer w (λ _. State.size k f) e a
  back (State.size k f) w ws e a = take-kind x number w (λ m. State.interval k f m) e a
  back (State.interval k f m) w ws e a = take-kind x number w (λ _. State.packings k f m) e a
  back (State.packings k f m) w ws e a = take-kind x packing w (λ p. State.alignments k f m p) e a
  back (State.alignments k f m p) w ws e a =
      take-kind x alignment w (λ a. State.inside (put k (record { datapacket = m; packing = p; align = a }) f) (name k ∷ [])) e a

  -- where the reader ends with a block, the words that it read there are the rest of one
  ahead : (ws : List Text) (s : State) → on (some s) ws ≡ some (State.done x) → Ahead x s ws
  ahead [] s e = subst (λ s. Ahead x s []) (sym (some-injective s (State.done x) e)) (refl, refl)
  ahead (w ∷ ws) s e = at (step s w) refl e (ahead ws)
    where
      at : (o : Option State) → step s w ≡ o → on o ws ≡ some (State.done x)
          → ((r : State) → on (some r) ws ≡ some (State.done x) → Ahead x r ws) → Ahead x s (w ∷ ws)
      at none g h rest = absurd (none-ne-some (State.done x) (sym (none-on ws) ∙ h))
      at (some r) g h rest = back s w ws g (rest r h)

  -- what is read is a block
  pub is_block : {ws : List Text} → on (some State.first) ws ≡ some (State.done x) → Block x ws
  is_block {ws} e = ahead ws State.first e
