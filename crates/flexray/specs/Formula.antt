-- How the code works a header out from its number. proofs/FormulaLaws shows that it comes to what the table of Setting says.
use Rattle.std.specs.Prelude.{ℕ, ◌+◌, ◌-◌, ◌%◌, ◌≤◌, Bool, cond, [], ltb, eqb}
use Rattle.flexray.specs.declared.Entry.{Entry}
use Rattle.flexray.specs.Setting.{Header}
use Rattle.flexray.specs.Table.{entry}

-- a header of `size` bytes, four at most, has room for NAX and for a LEN of `len` bytes and a CTR of `ctr`
pub record Roomy (size len ctr : ℕ) : Type 0 where
  pub least : 1 + (len + ctr) ≤ size
  pub most : size ≤ 4

-- NAX comes first and CTR behind it, LEN last; what is left of the size is free. A field that is absent stands at the header's end. For the
-- sizes that headers have, it goes with those of 1, 2 and 4 that divide its size and are more than its free bytes
abbrev pub made : (size len ctr : ℕ) → Entry
made size len ctr =
    let free = size - (1 + (len + ctr)) in
    record {
      shape = record { size = size; lenat = size - len; lenwidth = len; ctrat = cond (eqb ctr 1) 1 size; ctrwidth = ctr };
      least = cond (ltb free 2) (free + 1) 4;
      most = cond (eqb (size % 2) 0) size 1;
    }

-- filled up to four bytes, or of `short` bytes
abbrev pub filled : (full : Bool) (short len ctr : ℕ) → Entry
filled full short len ctr = made (cond full 4 short) len ctr

-- headers 1 to 8 are pairs: with neither CTR nor LEN, with CTR, with LEN, with both. The second of a pair is filled up; the first has two
-- bytes, or three with both
abbrev pub paired : ℕ → Bool → Entry
paired n full =
    cond (ltb 6 n) (filled full 3 1 1) (cond (ltb 4 n) (filled full 2 1 0) (cond (ltb 2 n) (filled full 2 0 1) (filled full 2 0 0)))

abbrev pub none : Header
none = record { fields = []; aligns = [] }

-- header 0 is NAX alone
unfoldable pub worked : ℕ → Entry
worked n =
    cond (ltb 8 n) (entry none)
    (cond (ltb n 1) (made 1 0 0) (paired n (eqb (n % 2) 0)))
