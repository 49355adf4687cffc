-- Words that are written out part into just these words, whatever the gaps.
use Prim.Native.Nat.{ℕ, ◌+◌}
use mathlib.Core.Path.{◌≡◌, refl, sym, ap, ◌∙◌}
use mathlib.Core.Bool.{true, false, true≢false, ◌&&◌}
use mathlib.Core.List.{List, [], ◌∷◌, ◌++◌}
use lib.ListN.{length, take, drop}
use Rattle.words.specs.declared.Start.{Start}
use Rattle.words.specs.Words.{ascii, begins, ends, ends_word, Before, IsWord, Word, Parts}
use Rattle.words.specs.Spaced.{slashed, Follows, Spaced, texts}
use Rattle.words.proofs.PieceLaws.{begun, Started, started}

-- where a word's last byte stands, the word goes on before whatever ends a word, as it does before the text's end
last-goes-on : {u : List ℕ} {k : Start} → Started u k → ends_word (take 1 u) ≡ false → ends_word (drop 1 u) ≡ true
    → (slashed (take 1 u) && begins (ascii "/") (drop 1 u)) ≡ false → ends k ≡ false
last-goes-on Started.nothing e h a = absurd (true≢false e)
last-goes-on (Started.blank b blank) e h a = absurd (true≢false (rw blank at e))
last-goes-on Started.comment e h a = absurd (true≢false (sym h))
last-goes-on Started.line e h a = absurd (true≢false a)
last-goes-on Started.quote e h a = absurd (true≢false e)
last-goes-on (Started.other f) e h a = refl

module _ {t : List ℕ} where
  word-before : {s : List ℕ} → ends_word t ≡ true → (slashed s && begins (ascii "/") t) ≡ false → Before ends_word [] s → Before ends_word t s
  word-before h a (Before.here e) = Before.here h
  word-before h a (Before.on {b = b} {s = []} e r) = Before.on (last-goes-on (started (b ∷ t)) e h a) (Before.here h)
  word-before h a (Before.on {s = c ∷ s} e r) = Before.on e (word-before h a r)

  string-before : {s : List ℕ} → Before (begins (ascii "\"")) (ascii "\"") s → Before (begins (ascii "\"")) (ascii "\"" ++ t) s
  string-before (Before.here e) = Before.here refl
  string-before (Before.on e r) = Before.on e (string-before r)

  -- what is a word by itself is one before what may follow it
  word_follows : {w : List ℕ} → IsWord [] w → Follows t w → IsWord t w
  word_follows (IsWord.string r) f = IsWord.string (string-before r)
  word_follows (IsWord.other r) (Follows.other e a) = IsWord.other (word-before e a r)
  word_follows (IsWord.other {b = b} {s = s} (Before.on e r)) (Follows.string q) =
      absurd (true≢false (ap ends_word (sym (begun (ascii "\"") (b ∷ (s ++ [])) q)) ∙ e))

pub record PartsInto (q : ℕ) (t : List ℕ) (ws : List (List ℕ)) : Type 0 where
  pub words : List Word
  pub parts : Parts q t words true
  pub are : texts words ≡ ws

pub spaced : {ws : List (List ℕ)} {t : List ℕ} (q : ℕ) → Spaced ws t → PartsInto q t ws
spaced q Spaced.none = record { words = []; parts = Parts.clean; are = refl }
spaced q (Spaced.gap {s = s} g r) =
    let p = spaced (q + length s) r in
    record { words = p.words; parts = Parts.gap g p.parts; are = p.are }
spaced q (Spaced.word {w = w} i f r) =
    let p = spaced (q + length w) r in
    record {
      words = record { at = q; text = w } ∷ p.words;
      parts = Parts.word (word_follows i f) p.parts;
      are = ap (w ∷◌) p.are;
    }
