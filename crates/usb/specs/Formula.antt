-- How the code works a header out from its number. proofs/FormulaLaws shows that it comes to what the table of Setting says.
use Rattle.std.specs.Prelude.{ℕ, ◌-◌, ◌*◌, cond, [], ltb, eqb}
use Rattle.layout.specs.declared.Shape.{Shape}
use Rattle.layout.specs.Field.{shape}

-- fields of w bytes, in one of three forms: 0 is LEN alone, 1 LEN and CTR, 2 LEN and free bytes. A CTR that is absent stands at the header's end
abbrev pub spread : ℕ → ℕ → Shape
spread form w =
    record {
      size = cond (eqb form 0) w (2 * w);
      lenat = 0;
      lenwidth = w;
      ctrat = cond (eqb form 2) (2 * w) w;
      ctrwidth = cond (eqb form 1) w 0;
    }

-- headers 0 to 2 are these forms with bytes, 3 to 5 with words
unfoldable pub worked : ℕ → Shape
worked n = cond (ltb n 3) (spread n 1) (cond (ltb n 6) (spread (n - 3) 2) (shape []))
