-- What a word inside a block comes to, by what it is.
use Prim.Native.Nat.{ℕ, ◌-◌, ◌<◌, ◌≤◌}
use native.Mathlib.Omega.{arith}
use mathlib.Core.Path.{◌≡◌, refl, sym, ap, ◌∙◌}
use mathlib.Core.Logic.{◌⊎◌, inl, inr}
use mathlib.Core.Bool.{Bool, true, false}
use mathlib.Core.Option.{none, some}
use mathlib.Core.List.{List, [], ◌∷◌}
use lib.ListN.{length}
use lib.Seq.{slice, length-slice}
use Rattle.std.specs.Prelude.{Option, Result, Ok, Err, Some, None}
use Rattle.std.specs.Option.{ok_or}
use Rattle.words.specs.declared.Word.{Word}
use Rattle.words.specs.declared.Wrong.{Wrong}
use Rattle.words.specs.Words.{same}
use Rattle.words.proofs.SameLaws.{same_true}
use Rattle.finding.specs.Finding.{NextWord}
use Rattle.keywords.specs.declared.Side.TheVariants.{Cmd, Res}
use Rattle.keywords.specs.Tables.{Text, begin, end, name, plain}
use Rattle.keywords.proofs.TableLaws.{Plain, plain-is}
use Rattle.description.specs.Reading.{Found, State, step, reading}
use Rattle.description.proofs.TurnLaws.{turn_on, turn_wrong, turn_end, turn_cut}
use Rattle.passing.specs.declared.Names.{Names}
use Rattle.passing.specs.declared.Sign.{Sign}
use Rattle.passing.specs.declared.Sign.TheVariants as S
use Rattle.passing.specs.Names.{name_in, names_in, held}
use Rattle.passing.specs.Passing.{Needed, Signed, NextName, Held, inside_of, opening, closing, Turned, Passable, Passed, OnTheWay}
use Rattle.passing.proofs.NamesLaws.{names_some, top, empty, none_open, opened, lies}

---- What a word is -------------------------------------------------------------------------------------------------------------

module _ {t : List ℕ} {q : ℕ} where
  pub needed-cut : {e : Wrong} → NextWord t q (Err e) → Needed t q (Err e)
  needed-cut n = λ s _. turn_cut s n

  pub needed : (o : Option Word) → NextWord t q (Ok o) → Needed t q (ok_or o (record { place = length t }))
  needed (Some w) n = n
  needed None n = λ s h. turn_end s n ∙ h (length t)

module _ (w : Text) {a : Bool} (e : a ≡ same w begin) where
  pub sign_begin : a ≡ true → w ≡ begin
  sign_begin f = same_true w begin (sym e ∙ f)

  module _ {b : Bool} (g : b ≡ same w end) where
    pub sign_end : b ≡ true → w ≡ end
    sign_end h = same_true w end (sym g ∙ h)

---- Behind /begin --------------------------------------------------------------------------------------------------------------

-- no name, but a word that opens or closes a block
step_no : (f : Found) (ns : List Text) (w : Text) → same w (name Cmd) ≡ false → same w (name Res) ≡ false → plain w ≡ false
    → step (State.begun f ns) w ≡ none
unfolding step
step_no f [] w a b e = rw (a, b, e)
step_no f (n ∷ ns) w a b e = rw e

module _ {t : List ℕ} {q : ℕ} where
  pub no_name : {x : Sign} {w : Word} → Signed t q (Ok (x, w)) → (x ≡ S.Begin) ⊎ (x ≡ S.End) → NextName t q (Err (record { place = w.from }))
  no_name s (inl e) =
      let (n, b) = rw e at s in
      λ f ns. turn_wrong (State.begun f ns) n (rw b (step_no f ns begin refl refl refl))
  no_name s (inr e) =
      let (n, b) = rw e at s in
      λ f ns. turn_wrong (State.begun f ns) n (rw b (step_no f ns end refl refl refl))

step_name : (f : Found) (n : Text) (ns : List Text) (w : Text) → plain w ≡ true
    → step (State.begun f (n ∷ ns)) w ≡ some (State.inside f (w ∷ n ∷ ns))
unfolding step
step_name f n ns w e = rw e

module _ {t : List ℕ} {q : ℕ} {n : Names} (h : Held t n 6 q) where
  module _ (some : 0 < n.depth) {w : Word} (x : NextName t q (Ok w)) where
    pub open_on : length n.places ≡ 2340 → Turned t q (opening t n) (held n w) (Ok w.to)
    open_on r =
        let y = x.0.within in
        let m : n.depth < length n.places = omega (arith, h.short, h.deep) in
        let i = name_in t n.places (n.depth - 1) in
        let is = names_in t n.places (n.depth - 1) in
        record {
          is = λ f.
              rw (opened t n.places n.depth w.from w.to m, names_some t n.places n.depth some)
              (turn_on (State.begun f (i ∷ is)) x.0 (step_name f i is (slice w.from w.to t) x.1));
          place = (
            omega arith,
            record {
              short = h.short;
              inside = y.2;
              deep = omega (arith, h.deep);
              lie = lies t n.places n.depth w.from w.to m (omega arith) y.2 h.lie;
            },
          );
        }

---- Behind /end ----------------------------------------------------------------------------------------------------------------

module _ {t : List ℕ} {q : ℕ} {n : Names} (some : 0 < n.depth) (h : Held t n 0 q) where
  module _ {w : Word} (x : NextWord t q (Ok (Some w))) {b : Bool} (g : b ≡ same (slice w.from w.to t) (name_in t n.places (n.depth - 1))) where
    pub close-on : b ≡ true → Turned t q (closing t n) (record { places = n.places; depth = n.depth - 1 }) (Ok w.to)
    unfolding step
    close-on e =
        record {
          is = λ f. turn_on (closing t n f) x (rw (← g, e));
          place = (
            omega (arith, x.within),
            record {
              short = h.short;
              inside = x.within.2;
              deep = omega (arith, h.deep, x.within);
              lie = (top t n.places n.depth some h.lie).1;
            },
          );
        }

    pub close_other : b ≡ false → Turned t q (closing t n) n (Err (record { place = w.from }))
    unfolding step
    close_other e = record { is = λ f. turn_wrong (closing t n f) x (rw (← g, e)); place = tt }

---- Inside a block -------------------------------------------------------------------------------------------------------------

-- what is read first is put before it
before : {t : List ℕ} {n : Names} {q k : ℕ} {s u : Found → State} (r : Result ℕ Wrong) → ((f : Found) → reading t q (s f) ≡ reading t k (u f))
    → q ≤ k → Turned t k u n r → Turned t q s n r
before (Ok p) e h x = record { is = λ f. e f ∙ x.is f; place = (omega (arith, x.place.0), x.place.1) }
before (Err p) e h x = record { is = λ f. e f ∙ x.is f; place = tt }

module _ {t : List ℕ} {q : ℕ} {n : Names} (some : 0 < n.depth) (h : Held t n 0 q) where
  module _ {w : Word} (x : NextWord t q (Ok (Some w))) where
    module _ (b : slice w.from w.to t ≡ begin) where
      pub begin-held : Held t n 6 w.to
      begin-held =
          let y = x.within in
          let l : w.to - w.from ≡ 6 = sym (length-slice w.from w.to t y.2) ∙ ap length b in
          record { short = h.short; inside = y.2; deep = omega (arith, h.deep); lie = h.lie }

      pub inside-begin : {m : Names} (r : Result ℕ Wrong) → Turned t w.to (opening t n) m r → Turned t q (inside_of t n) m r
      unfolding step
      inside-begin r y = before r (λ f. turn_on (inside_of t n f) x (rw b)) (omega (arith, x.within)) y

    module _ (b : slice w.from w.to t ≡ end) where
      pub end-held : Held t n 0 w.to
      end-held = record { short = h.short; inside = x.within.2; deep = omega (arith, h.deep, x.within); lie = h.lie }

      pub inside-end : {m : Names} (r : Result ℕ Wrong) → Turned t w.to (closing t n) m r → Turned t q (inside_of t n) m r
      unfolding step
      inside-end r y =
          before r
          (λ f.
          rw (names_some t n.places n.depth some)
          (turn_on (State.inside f (name_in t n.places (n.depth - 1) ∷ names_in t n.places (n.depth - 1))) x (rw b)))
          (omega (arith, x.within)) y

    pub inside-other : plain (slice w.from w.to t) ≡ true → Turned t q (inside_of t n) n (Ok w.to)
    unfolding step
    inside-other b =
        let p : Plain (slice w.from w.to t) = plain-is b in
        record {
          is = λ f. turn_on (inside_of t n f) x (rw (p.unbegin, p.unend));
          place = (
            omega (arith, x.within),
            record { short = h.short; inside = x.within.2; deep = omega (arith, h.deep, x.within); lie = h.lie },
          );
        }

---- To the end of a block ------------------------------------------------------------------------------------------------------

module _ {t : List ℕ} {name : Word} {q : ℕ} where
  pub way-first : (ps : List (ℕ × ℕ)) → length ps ≡ 2340 → Passable t name q → OnTheWay t name q (held (record { places = ps; depth = 0 }) name) q
  unfolding names_in
  way-first ps r h =
      let m : 0 < length ps = omega arith in
      record {
        is = λ f. rw (opened t ps 0 name.from name.to m);
        held = record {
          short = h.short;
          inside = h.inside;
          deep = omega (arith, h.deep);
          lie = lies t ps 0 name.from name.to m h.order (omega (arith, h.behind, h.inside)) (empty t ps);
        };
        on = omega arith;
      }

  module _ {n m : Names} {k : ℕ} (w : OnTheWay t name q n k) where
    pub way_on : {p : ℕ} → Turned t k (inside_of t n) m (Ok p) → OnTheWay t name q m p
    way_on y = record { is = λ f. w.is f ∙ y.is f; held = y.place.1; on = omega (arith, w.on, y.place.0) }

    pub way_less : {p : ℕ} → Turned t k (inside_of t n) m (Ok p) → length t - p < length t - k
    way_less y = omega (arith, y.place.0, y.place.1.inside)

    pub way-wrong : {e : Wrong} → Turned t k (inside_of t n) m (Err e) → Passed t name q (Err e)
    way-wrong y = record { is = λ f. w.is f ∙ y.is f; place = tt }

  pub way_end : {n : Names} {k : ℕ} → OnTheWay t name q n k → n.depth ≤ 0 → Passed t name q (Ok k)
  way_end {n} w h = record { is = λ f. w.is f ∙ rw (none_open t n.places n.depth h); place = (w.on, w.held.inside) }
