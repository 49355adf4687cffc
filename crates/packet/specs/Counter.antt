-- Counters and gaps (document 01, 'Counters and kinds'), over the counter's width w in bytes; a width of 0 is no counter.
use Rattle.std.specs.Prelude.{ℕ, zero, suc, ◌+◌, ◌-◌, ◌%◌, ◌^◌, ◌<◌, ◌≤◌, Bool, cond, ◌||◌, ◌==◌, nat_lt}
use Rattle.packet.specs.declared.Counter.{Counter}

abbrev pub fresh : Counter
fresh = record { known = 0; expected = 0 }

-- a number that a counter can be, at most its size less 1; any where there is none
abbrev pub holds : ℕ → ℕ → Bool
holds w n = w == 0 || nat_lt n (256 ^ w)

-- with CTR, a number that exceeds the counter's size less 1
pub record Exceeds (w n : ℕ) : Type 0 where
  pub carried : 0 < w
  pub over : 256 ^ w ≤ n

-- a state whose expected counter, if it is known, does not exceed it
unfoldable pub valid : ℕ → Counter → Bool
valid w s = s.known == 0 || holds w s.expected

-- c less e, modulo the counter's size
abbrev pub difference : ℕ → ℕ → ℕ → ℕ
difference w c e = (c + (256 ^ w - e)) % 256 ^ w

-- the gap of a message with counter c: 0 from a fresh state, and 0 of a message that carries none
unfoldable pub gap : ℕ → Counter → ℕ → ℕ
gap w s c = cond (w == 0 || s.known == 0) 0 (difference w c s.expected)

-- the counter after c; c itself where there is none
unfoldable pub next : ℕ → ℕ → ℕ
next w c = cond (w == 0) c ((c + 1) % 256 ^ w)

-- the counter n messages after c
unfoldable pub later : ℕ → ℕ → ℕ → ℕ
later w zero c = c
later w (suc n) c = later w n (next w c)

-- the state behind n messages of which the first has counter c. Without CTR it is neither read nor altered
unfoldable pub advance : ℕ → ℕ → Counter → ℕ → Counter
advance w n s c = cond (w == 0) s (record { known = 1; expected = later w n c })
