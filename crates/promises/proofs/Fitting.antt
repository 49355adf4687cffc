-- When a text of the description file is accepted and when it is refused, spelled out in the words of Ask 1; and that this is what the
-- definitions `Accept` and `Refusal` say.
use Prim.Native.Nat.{ℕ, ◌<◌, ◌≤◌}
use native.Mathlib.Omega.{arith}
use mathlib.Core.Path.{◌≡◌, refl, sym, ◌∙◌, subst}
use mathlib.Core.Logic.{◌⊎◌, inl, inr}
use mathlib.Core.Bool.{Bool, true, false, cond}
use mathlib.Core.List.{List, [], ◌∷◌, ◌++◌}
use lib.ListN.{length}
use Rattle.layout.proofs.TestLaws.{and_left, and_right}
use Rattle.usb.specs.declared.Setting.{Setting}
use Rattle.usb.specs.Setting.{sound}
use Rattle.words.specs.Words.{Word, Parts}
use Rattle.words.specs.Spaced.{texts}
use Rattle.words.proofs.PartLaws.{parts_unique}
use Rattle.keywords.specs.Tables.{Text}
use Rattle.description.specs.Described.{Described as D}
use Rattle.std.specs.Prelude.{Ok, Err}
use Rattle.description.specs.declared.Said.{Said}
use Rattle.description.specs.Block.{Block}
use Rattle.description.specs.Standing.{GoesOn, Stops, Describes, Wrong, cmd_setting, res_setting, both_sound, Refusal, Accept}
use Rattle.description.specs.Reading.{Outcome, State, judge, reading}
use Rattle.description.proofs.AnswerLaws.{Answered, answer-is}
use Rattle.description.proofs.PlaceLaws.{place-within}
use Rattle.description.proofs.StandingLaws.{said_unique}
use Rattle.settings.proofs.SettingsLaws.{settings_judged}

-- two settings are no refusal
pub no_refusal : {c d : Setting} {n p : ℕ} → D.Both c d ≡ D.Refused n p → ⊥
no_refusal e = let z : ◌≡◌ {A = ℕ} 0 1 = cc in omega arith

-- at most one header with its endpoints is what a text describes
pub describes_only : {t : List ℕ} {s u : Said} → Describes t s → Describes t u → s ≡ u
describes_only {s = s} a b =
    let (e, f) = parts_unique a.parts b.parts in
    said_unique (subst (λ ws. Block s (texts ws)) e a.block) b.block

---- Acceptance -----------------------------------------------------------------------------------------------------------------

-- a text of at most 16,384 bytes parts, with no comment or string left unclosed, into the words of a block, and both settings that the block says are sound
pub record Fits (t : List ℕ) (x : ℕ) (s : Said) : Type 0 where
  pub short : length t ≤ 16384
  pub words : List Word
  pub parts : Parts 0 t words true
  pub block : Block s (texts words)
  pub cmd : sound (cmd_setting s x) ≡ true
  pub res : sound (res_setting s x) ≡ true

-- settings as a block says them: sound, one for each direction, with one header, and with the longest packet x
pub record Pair (x : ℕ) (c d : Setting) : Type 0 where
  pub cmd : sound c ≡ true
  pub res : sound d ≡ true
  pub from-master : c.direction ≡ 1
  pub from-slave : d.direction ≡ 0
  pub header : c.header ≡ d.header
  pub longest : (c.longest ≡ x) × (d.longest ≡ x)

module _ {t : List ℕ} {x : ℕ} where
  pub fits_describes : {s : Said} → Fits t x s → Describes t s
  fits_describes f = record { words = f.words; parts = f.parts; block = f.block }

  pub fits-accept : {s : Said} → Fits t x s → Accept t x (cmd_setting s x) (res_setting s x)
  fits-accept f = Accept.accept f.short (fits_describes f) (rw (f.cmd, f.res))

  sound-fits : {s : Said} → length t ≤ 16384 → Describes t s → both_sound s x ≡ true → Fits t x s
  sound-fits {s} l k e =
      let c = sound (cmd_setting s x) in
      let r = sound (res_setting s x) in
      record { short = l; words = k.words; parts = k.parts; block = k.block; cmd = and_left c r e; res = and_right c r e }

  pub accept-fits : {c d : Setting} → Accept t x c d → (s : Said) × Fits t x s
  accept-fits (Accept.accept {s = s} l k e) = (s, sound-fits l k e)

  pub accept_pair : {c d : Setting} → Accept t x c d → Pair x c d
  accept_pair (Accept.accept {s = s} l k e) =
      let f : Fits t x s = sound-fits l k e in
      record { cmd = f.cmd; res = f.res; from-master = refl; from-slave = refl; header = refl; longest = (refl, refl) }

---- Refusals -------------------------------------------------------------------------------------------------------------------

-- the text's words are ts, then w at place p, then others
pub record Reaches (t : List ℕ) (ts : List Text) (w : Text) (p : ℕ) : Type 0 where
  pub before : List Word
  pub others : List Word
  pub closed : Bool
  pub parts : Parts 0 t (before ++ (record { at = p; text = w } ∷ others)) closed
  pub are : texts before ≡ ts

-- the word at p is the first that cannot stand: those before it can be gone on to a block, and with it they cannot
pub record FirstWrong (t : List ℕ) (p : ℕ) : Type 0 where
  pub words : List Text
  pub word : Text
  pub reached : Reaches t words word p
  pub can : GoesOn words
  pub cannot : GoesOn (words ++ (word ∷ [])) → ⊥

-- all words can stand, p is the text's length, and the text is no block
pub record StopsEarly (t : List ℕ) (p : ℕ) : Type 0 where
  pub words : List Word
  pub closed : Bool
  pub parts : Parts 0 t words closed
  pub at : p ≡ length t
  pub can : GoesOn (texts words)
  pub none : (s : Said) → Describes t s → ⊥

-- one of both
abbrev pub NoBlock : List ℕ → ℕ → Type 0
NoBlock t p = FirstWrong t p ⊎ StopsEarly t p

-- the text is a block, and the two settings that it says are not both sound
abbrev pub Unsound : List ℕ → ℕ → Type 0
Unsound t x = (s : Said) × Describes t s × (both_sound s x ≡ false)

why_wrong : {t : List ℕ} {p : ℕ} → Wrong t p → NoBlock t p
why_wrong {t} (Wrong.word us vs {w = w} {c = c} p h) =
    let r : Reaches t (texts us) w.text w.at = record { before = us; others = vs; closed = c; parts = p; are = refl } in
    inl (record { words = texts us; word = w.text; reached = r; can = h.before; cannot = h.behind })
why_wrong (Wrong.early {ws = ws} {c = c} p g n) = inr (record { words = ws; closed = c; parts = p; at = refl; can = g; none = n })

pub stops-wrong : {t : List ℕ} {ts : List Text} {w : Text} {p : ℕ} → Reaches t ts w p → Stops ts w → Wrong t p
stops-wrong {w = w} {p = p} r h =
    Wrong.word r.before r.others {w = record { at = p; text = w }} r.parts (rw r.are h)

pub so_wrong : {t : List ℕ} {p : ℕ} → NoBlock t p → Wrong t p
so_wrong (inl f) = stops-wrong f.reached (record { before = f.can; behind = f.cannot })
so_wrong (inr e) = rw e.at (Wrong.early e.parts e.can e.none)

module _ {t : List ℕ} {x : ℕ} where
  pub refusal-some : {n p : ℕ} → Refusal t x n p → 0 < n
  refusal-some (Refusal.long h) = omega arith
  refusal-some (Refusal.wrong l w) = omega arith
  refusal-some (Refusal.unsound l d e) = omega arith

  pub refusal-number : {n p : ℕ} → Refusal t x n p → (n ≡ 1) ⊎ ((n ≡ 2) ⊎ (n ≡ 9))
  refusal-number (Refusal.long h) = inr (inl refl)
  refusal-number (Refusal.wrong l w) = inr (inr refl)
  refusal-number (Refusal.unsound l d e) = inl refl

  -- by its number
  pub is-long : {n p : ℕ} → Refusal t x n p → n ≡ 2 → (p ≡ 0) × (16384 < length t)
  is-long (Refusal.long h) e = (refl, h)
  is-long (Refusal.wrong l w) e = absurd (omega (arith, e))
  is-long (Refusal.unsound l d k) e = absurd (omega (arith, e))

  pub is-wrong : {n p : ℕ} → Refusal t x n p → n ≡ 9 → (length t ≤ 16384) × NoBlock t p
  is-wrong (Refusal.long h) e = absurd (omega (arith, e))
  is-wrong (Refusal.wrong l w) e = (l, why_wrong w)
  is-wrong (Refusal.unsound l d k) e = absurd (omega (arith, e))

  pub is-unsound : {n p : ℕ} → Refusal t x n p → n ≡ 1 → (p ≡ 0) × (length t ≤ 16384) × Unsound t x
  is-unsound (Refusal.long h) e = absurd (omega (arith, e))
  is-unsound (Refusal.wrong l w) e = absurd (omega (arith, e))
  is-unsound (Refusal.unsound {s = s} l d k) e = (refl, l, (s, d, k))

module _ (t : List ℕ) (x : ℕ) where
  -- what the words come to, where the answer is 9 at p
  judged-within : {p : ℕ} (o : Outcome) → o ≡ reading t 0 State.first → D.Refused 9 p ≡ judge x o → p ≤ length t
  judged-within {p} (Err q) k e = let z : p ≡ q.place = cc in rw z (place-within t State.first k)
  judged-within {p} (Ok s) k e = absurd (right (both_sound s x) e)
    where
      right : (b : Bool) → D.Refused 9 p ≡ cond b (D.Both (cmd_setting s x) (res_setting s x)) (D.Refused 1 0) → ⊥
      right true y = no_refusal (sym y)
      right false y = let z : ◌≡◌ {A = ℕ} 9 1 = cc in omega arith

  -- a refusal's place is in the text, or at its end
  pub refusal-within : {n p : ℕ} → Refusal t x n p → p ≤ length t
  refusal-within (Refusal.long h) = omega arith
  refusal-within (Refusal.unsound l d e) = omega arith
  refusal-within (Refusal.wrong l w) =
      judged-within (reading t 0 State.first) refl
      (sym (answer-is t x (Answered.refused (Refusal.wrong l w))) ∙ sym (settings_judged t x l refl))
