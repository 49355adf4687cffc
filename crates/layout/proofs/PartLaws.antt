-- Bytes at a place of an input.
use Prim.Native.Nat.{ℕ, ◌+◌, ◌<◌, ◌≤◌}
use native.Mathlib.Omega.{arith}
use native.Mathlib.Numerals.{add-one}
use mathlib.Core.Path.{◌≡◌, sym}
use mathlib.Core.List.{List, ◌∷◌, ◌++◌}
use lib.ListN.{length, get_or, take, drop, length-drop, length-take, take-append-drop}
use lib.Seq.{drop-cons, drop-drop, drop_at}

module _ (t : List ℕ) where
  -- what stands at i, and what is behind it
  pub drop-next : (i : ℕ) → i < length t → drop i t ≡ get_or t i 0 ∷ drop (i + 1) t
  drop-next i h = rw add-one (drop-cons t i 0 h)

  -- the n bytes at q, and what is behind them
  pub cut : (q n : ℕ) → drop q t ≡ take n (drop q t) ++ drop (q + n) t
  cut q n = rw (← drop-drop n q t) (sym (take-append-drop n (drop q t)))

  pub long : (q n : ℕ) → q + n ≤ length t → length (take n (drop q t)) ≡ n
  long q n h = simp (length-take, length-drop) (omega arith)

  -- what is behind the n bytes b at q
  pub behind : (q n : ℕ) (b r : List ℕ) → length b ≡ n → b ++ r ≡ drop q t → drop (q + n) t ≡ r
  behind q n b r l c = rw (← drop-drop n q t, ← c) (drop_at b r n l)
