-- When a text is refused, with which number and place, and when it is accepted (Ask 1; docs/DECISIONS.md, 'Which word cannot stand'). Nothing here reads.
-- A word can stand if the words up to it can be gone on to a block; all the places follow from that.
use Rattle.std.specs.Prelude.{ℕ, ◌<◌, ◌≤◌, ◌≡◌, Bool, true, false, ◌&&◌, List, [], ◌∷◌, ◌++◌, length}
use Rattle.words.specs.Words.{Word, Parts}
use Rattle.words.specs.Spaced.{texts}
use Rattle.usb.specs.declared.Setting.{Setting}
use Rattle.usb.specs.Setting.{sound}
use Rattle.keywords.specs.Tables.{Text}
use Rattle.description.specs.declared.Endpoint.{Endpoint}
use Rattle.description.specs.declared.Said.{Said}
use Rattle.description.specs.Block.{Block}

-- some words behind them, or none, make a block
pub record GoesOn (ws : List Text) : Type 0 where
  pub rest : List Text
  pub said : Said
  pub block : Block said (ws ++ rest)

-- of the words us and then w, w is the first that cannot stand
pub record Stops (us : List Text) (w : Text) : Type 0 where
  pub before : GoesOn us
  pub behind : GoesOn (us ++ (w ∷ [])) → ⊥

-- the text's words are a block that says x
pub record Describes (t : List ℕ) (x : Said) : Type 0 where
  pub words : List Word
  pub parts : Parts 0 t words true
  pub block : Block x (texts words)

-- the text is no block, as its place p shows
pub data Wrong (t : List ℕ) : ℕ → Type 0 where
  word : (us vs : List Word) {w : Word} {c : Bool} → Parts 0 t (us ++ (w ∷ vs)) c → Stops (texts us) w.text → Wrong t w.at
  -- all its words can stand, and it stops early: before the block's end, or inside what is not closed
  early : {ws : List Word} {c : Bool} → Parts 0 t ws c → GoesOn (texts ws) → ((x : Said) → Describes t x → ⊥) → Wrong t (length t)

-- the most bytes of a description
abbrev pub most_text : ℕ
most_text = 16384

-- an endpoint's setting, with the header of its block, the longest packet X and the direction
abbrev pub setting : ℕ → ℕ → ℕ → Endpoint → Setting
setting h x d e =
    record { header = h; packing = e.packing; align = e.align; datapacket = e.datapacket; longest = x; direction = d }

abbrev pub cmd_setting : Said → ℕ → Setting
cmd_setting s x = setting s.header x 1 s.cmd

abbrev pub res_setting : Said → ℕ → Setting
res_setting s x = setting s.header x 0 s.res

abbrev pub both_sound : Said → ℕ → Bool
both_sound s x = sound (cmd_setting s x) && sound (res_setting s x)

-- a text is refused, with a number and at a place
pub data Refusal (t : List ℕ) (x : ℕ) : ℕ → ℕ → Type 0 where
  long : most_text < length t → Refusal t x 2 0
  wrong : {p : ℕ} → length t ≤ most_text → Wrong t p → Refusal t x 9 p
  unsound : {s : Said} → length t ≤ most_text → Describes t s → both_sound s x ≡ false → Refusal t x 1 0

-- a text is accepted with these settings
pub data Accept (t : List ℕ) (x : ℕ) : Setting → Setting → Type 0 where
  accept : {s : Said} → length t ≤ most_text → Describes t s → both_sound s x ≡ true → Accept t x (cmd_setting s x) (res_setting s x)
