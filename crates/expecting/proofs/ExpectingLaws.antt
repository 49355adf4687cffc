-- A word that must stand is read, and so is a series, word by word.
use Prim.Native.Nat.{ℕ, suc, ◌+◌, ◌<◌, ◌≤◌}
use native.Mathlib.Omega.{arith}
use native.Mathlib.Numerals.{add-one}
use mathlib.Core.Path.{◌≡◌, refl, ap, ◌∙◌}
use mathlib.Core.Option.{Option, none, some}
use mathlib.Core.List.{List, ◌∷◌}
use lib.ListN.{length, drop, get_or, set, length-set, drop_of_length-le}
use lib.Seq.{slice, drop-cons, take-suc-set, take_all}
use Rattle.std.specs.Prelude.{Result, Ok, Err, Some}
use Rattle.std.specs.Option.{ok_or}
use Rattle.words.specs.declared.Word.{Word}
use Rattle.words.specs.declared.Wrong.{Wrong}
use Rattle.finding.specs.Finding.{NextWord}
use Rattle.keywords.specs.declared.Kind.{Kind}
use Rattle.keywords.specs.Tables.{Text}
use Rattle.keywords.specs.Saying.{meaning, told}
use Rattle.description.specs.Reading.{reading}
use Rattle.description.proofs.TurnLaws.{turn_on, turn_wrong}
use Rattle.passing.specs.Passing.{Stopping}
use Rattle.expecting.specs.Expecting.{Expects, Led, Midway}

---- One word -------------------------------------------------------------------------------------------------------------------

says_some : (o : Option ℕ) (e : Wrong) {n : ℕ} → ok_or (told o) e ≡ Ok n → o ≡ some n
says_some none e h = cc
says_some (some m) e h = cc

says_none : (o : Option ℕ) (e : Wrong) {d : Wrong} → ok_or (told o) e ≡ Err d → (o ≡ none) × (e ≡ d)
says_none none e h = (refl, cc)
says_none (some m) e h = cc

-- what the code makes of a word of the kind
abbrev said : (Text → Option ℕ) → List ℕ → Word → Result ℕ Wrong
said kind t w = ok_or (told (kind (slice w.from w.to t))) (record { place = w.from })

module _ (kind : Text → Option ℕ) {t : List ℕ} {q : ℕ} where
  module _ {w : Word} (n : NextWord t q (Ok (Some w))) where
    pub expect_word : {v : ℕ} → said kind t w ≡ Ok v → Expects kind t q (Ok (v, w.to))
    expect_word h =
        let k = says_some (kind (slice w.from w.to t)) (record { place = w.from }) h in
        record {
          is = λ s then a. turn_on s n (a.word (slice w.from w.to t) ∙ rw k);
          place = (omega (arith, n.within), n.within.2);
        }

    pub expect_other : {d : Wrong} → said kind t w ≡ Err d → Expects kind t q (Err d)
    expect_other h =
        let k = says_none (kind (slice w.from w.to t)) (record { place = w.from }) h in
        record { is = λ s then a. turn_wrong s n (a.word (slice w.from w.to t) ∙ rw k.0) ∙ ap Err k.1; place = tt }

  pub expect_stop : {e : Wrong} → Stopping t q e → Expects kind t q (Err e)
  expect_stop h = record { is = λ s then a. h s a.early; place = tt }

---- A series -------------------------------------------------------------------------------------------------------------------

module _ {ks : List Kind} {t : List ℕ} {q : ℕ} where
  pub series_first : {vs : List ℕ} → q ≤ length t → length vs ≡ length ks → Midway ks t q vs 0 q
  series_first h e =
      record {
        all = e;
        upto = omega arith;
        from = omega arith;
        inside = h;
        at = λ s then l. record { state = s; leads = l; is = refl };
      }

  module _ {vs : List ℕ} {i k : ℕ} (m : Midway ks t q vs i k) (h : i < length vs) (d : Kind) where
    -- the state that is reached asks for the next word
    next-kind : drop i ks ≡ get_or ks i d ∷ drop (suc i) ks
    next-kind = drop-cons ks i d (omega (arith, m.all))

    pub series_on : {v j : ℕ} → Expects (meaning (get_or ks i d)) t k (Ok (v, j)) → Midway ks t q (set vs i v) (i + 1) j
    series_on {v} {j} x =
        record {
          all = length-set vs i v ∙ m.all;
          upto = omega (arith, m.all);
          from = omega (arith, m.from, x.place);
          inside = x.place.1;
          at = λ s then l.
              let a = m.at s then l in
              let (u, asks, rest) = rw next-kind at a.leads in
              record {
                state = u v;
                leads = rw (add-one i, take-suc-set vs i v h) (rest v);
                is = a.is ∙ x.is a.state u asks;
              };
        }

    pub series_wrong : {e : Wrong} → Expects (meaning (get_or ks i d)) t k (Err e) → Led ks t q (Err e)
    series_wrong x =
        record {
          is = λ s then l.
              let a = m.at s then l in
              let (u, asks, rest) = rw next-kind at a.leads in
              a.is ∙ x.is a.state u asks;
          place = tt;
        }

  pub series_end : {vs : List ℕ} {i k : ℕ} → Midway ks t q vs i k → length vs ≤ i → Led ks t q (Ok (vs, k))
  series_end {vs} {i} {k} m h =
      record {
        is = λ s then l.
            let a = m.at s then l in
            let e = rw (drop_of_length-le ks {i = i} (omega (arith, m.all)), take_all i vs h) at a.leads in
            a.is ∙ ap (reading t k) e;
        place = (m.from, m.inside);
      }
