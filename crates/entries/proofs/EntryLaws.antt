-- What an entry comes to, by its name.
use Prim.Native.Nat.{ℕ}
use native.Mathlib.Omega.{arith}
use mathlib.Core.Path.{◌≡◌, refl, sym, ◌∙◌}
use mathlib.Core.Bool.{Bool, true, false}
use mathlib.Core.Option.{none, some}
use mathlib.Core.List.{List, [], ◌∷◌}
use lib.ListN.{get_or}
use lib.Seq.{slice}
use Rattle.std.specs.Prelude.{Result, Ok, Err, Some, None, is_some}
use Rattle.std.specs.declared.option.Option as O
use Rattle.words.specs.declared.Word.{Word}
use Rattle.words.specs.declared.Wrong.{Wrong}
use Rattle.words.specs.Words.{same}
use Rattle.words.proofs.SameLaws.{same_true}
use Rattle.keywords.specs.declared.Side.{Side}
use Rattle.keywords.specs.declared.Side.TheVariants.{Cmd, Res}
use Rattle.keywords.specs.Tables.{Text, name as name_of, ordinary}
use Rattle.description.specs.declared.Endpoint.{Endpoint}
use Rattle.description.specs.Reading.{Found, has, put, State, step, reading}
use Rattle.description.proofs.BlockLaws.{step-entry, step-endpoint, step_second}
use Rattle.description.proofs.TurnLaws.{turn_word}
use Rattle.passing.specs.Passing.{NextName, Passed}
use Rattle.expecting.specs.Expecting.{parameters, Leads, Led}
use Rattle.entries.specs.declared.Gathered.{Gathered}
use Rattle.entries.specs.Entering.{maybe, meant, Parsed, Entering, Enters}

---- An endpoint ----------------------------------------------------------------------------------------------------------------

-- M, packing and alignment among what the parameters say
abbrev pub endpoint_in : List ℕ → Endpoint
endpoint_in vs = record { datapacket = get_or vs 2 0; packing = get_or vs 4 0; align = get_or vs 5 0 }

parameters_lead : (k : Side) (f : Found)
    → Leads parameters (State.endpoint k f) [] (λ vs. State.inside (put k (endpoint_in vs) f) (name_of k ∷ []))
unfolding step
parameters_lead k f = (
  λ _. State.transfers k f,
  record { word = λ w. refl; early = λ n. refl },
  λ a. (
    λ _. State.size k f,
    record { word = λ w. refl; early = λ n. refl },
    λ b. (
      λ m. State.interval k f m,
      record { word = λ w. refl; early = λ n. refl },
      λ m. (
        λ _. State.packings k f m,
        record { word = λ w. refl; early = λ n. refl },
        λ c. (
          λ p. State.alignments k f m p,
          record { word = λ w. refl; early = λ n. refl },
          λ p. (
            λ l. State.inside (put k (record { datapacket = m; packing = p; align = l }) f) (name_of k ∷ []),
            record { word = λ w. refl; early = λ n. refl },
            λ l. refl,
          ),
        ),
      ),
    ),
  ),
)

module _ {t : List ℕ} (name : Word) where
  pub parse_wrong : {e : Wrong} → Led parameters t name.to (Err e) → Parsed t name (Err e)
  parse_wrong l =
      record {
        is = λ k f _. l.is (State.endpoint k f) (λ vs. State.inside (put k (endpoint_in vs) f) (name_of k ∷ [])) (parameters_lead k f);
        place = tt;
      }

  module _ {vs : List ℕ} {k : ℕ} (l : Led parameters t name.to (Ok (vs, k))) where
    behind-parameters : (w : Text) (s : Side) (f : Found) → w ≡ name_of s
        → reading t name.to (State.endpoint s f) ≡ reading t k (State.inside (put s (endpoint_in vs) f) (w ∷ []))
    behind-parameters w s f n =
        rw n (l.is (State.endpoint s f) (λ vs. State.inside (put s (endpoint_in vs) f) (name_of s ∷ [])) (parameters_lead s f))

    pub parse_over : {q : ℕ} → Passed t name k (Ok q) → Parsed t name (Ok (endpoint_in vs, q))
    parse_over p =
        record {
          is = λ s f n. behind-parameters (slice name.from name.to t) s f n ∙ p.is (put s (endpoint_in vs) f);
          place = (omega (arith, l.place, p.place), p.place.1);
        }

    pub parse_over-wrong : {e : Wrong} → Passed t name k (Err e) → Parsed t name (Err e)
    parse_over-wrong p =
        record { is = λ s f n. behind-parameters (slice name.from name.to t) s f n ∙ p.is (put s (endpoint_in vs) f); place = tt }

---- An entry -------------------------------------------------------------------------------------------------------------------

maybe_some : (o : O.Option Endpoint) → is_some o ≡ true → (e : Endpoint) × (maybe o ≡ some e)
maybe_some (Some e) h = (e, refl)
maybe_some None h = cc

maybe_none : (o : O.Option Endpoint) → is_some o ≡ false → maybe o ≡ none
maybe_none (Some e) h = cc
maybe_none None h = refl

first : (k : Side) (g : Gathered) (o : O.Option Endpoint) → maybe o ≡ has k (meant g) → is_some o ≡ false
    → step (State.begun (meant g) []) (name_of k) ≡ some (State.endpoint k (meant g))
first k g o v x = step-endpoint k (meant g) (sym v ∙ maybe_none o x)

module _ {t : List ℕ} {name : Word} {g : Gathered} where
  module _ (k : Side) (n : slice name.from name.to t ≡ name_of k) (o : O.Option Endpoint) (v : maybe o ≡ has k (meant g)) where
    -- a second endpoint is refused at its name
    pub enter_second : is_some o ≡ true → Entering t name g (Err (record { place = name.from }))
    enter_second x =
        let (e, y) = maybe_some o x in
        record { is = rw (n, step_second k (meant g) (sym v ∙ y)); place = tt }

    module _ (x : is_some o ≡ false) where
      pub enter_first : {e : Endpoint} {q : ℕ} {h : Gathered} → Parsed t name (Ok (e, q)) → meant h ≡ put k e (meant g)
          → Entering t name g (Ok (h, q))
      enter_first p m = record { is = rw (n, first k g o v x, m) (p.is k (meant g) n); place = p.place }

      pub enter_wrong : {e : Wrong} → Parsed t name (Err e) → Entering t name g (Err e)
      enter_wrong p = record { is = rw (n, first k g o v x) (p.is k (meant g) n); place = tt }

  -- the name of a block that is read over
  module _ (o : ordinary (slice name.from name.to t) ≡ true) where
    pub enter_over : {q : ℕ} → Passed t name name.to (Ok q) → Entering t name g (Ok (g, q))
    enter_over p = record { is = rw (step-entry (meant g) (slice name.from name.to t) o) (p.is (meant g)); place = p.place }

    pub enter_over-wrong : {e : Wrong} → Passed t name name.to (Err e) → Entering t name g (Err e)
    enter_over-wrong p = record { is = rw (step-entry (meant g) (slice name.from name.to t) o) (p.is (meant g)); place = tt }

---- By its name ----------------------------------------------------------------------------------------------------------------

module _ (w : Text) {a : Bool} (e : a ≡ same w (name_of Cmd)) where
  pub name-cmd : a ≡ true → w ≡ name_of Cmd
  name-cmd f = same_true w (name_of Cmd) (sym e ∙ f)

  module _ {b : Bool} (g : b ≡ same w (name_of Res)) where
    pub name-res : b ≡ true → w ≡ name_of Res
    name-res h = same_true w (name_of Res) (sym g ∙ h)

---- Behind /begin --------------------------------------------------------------------------------------------------------------

module _ {t : List ℕ} {q : ℕ} {w : Word} (n : NextName t q (Ok w)) where
  pub entry : {g : Gathered} (r : Result (Gathered × ℕ) Wrong) → Entering t w g r → Enters t (State.begun (meant g) []) q r
  entry {g} (Ok (h, k)) y =
      record { is = turn_word (State.begun (meant g) []) n.0 ∙ y.is; place = (omega (arith, n.0.within, y.place), y.place.1) }
  entry {g} (Err e) y = record { is = turn_word (State.begun (meant g) []) n.0 ∙ y.is; place = tt }
