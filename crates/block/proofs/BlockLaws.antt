-- What a block comes to: at its end, at an entry, at its opening words.
use Prim.Native.Nat.{ℕ, ◌-◌}
use native.Mathlib.Omega.{arith}
use mathlib.Core.Path.{◌≡◌, refl, sym, ap, ◌∙◌}
use mathlib.Core.Bool.{Bool, true, false, cond}
use mathlib.Core.Option.{none, some}
use mathlib.Core.List.{List, []}
use lib.ListN.{length, get_or}
use lib.Seq.{slice, length-slice}
use Rattle.std.specs.Prelude.{Ok, Err, Some, None}
use Rattle.words.specs.declared.Word.{Word}
use Rattle.words.specs.declared.Wrong.{Wrong}
use Rattle.words.specs.Words.{same}
use Rattle.finding.specs.Finding.{NextWord}
use Rattle.keywords.specs.declared.Kind.TheVariants as K
use Rattle.keywords.specs.Tables.{begin, end, plain, xcp_on_usb}
use Rattle.keywords.specs.Saying.{meaning}
use Rattle.keywords.proofs.TableLaws.{Plain, plain-is}
use Rattle.description.specs.declared.Said.{Said}
use Rattle.description.specs.Reading.{Outcome, State, when, given, whole, step, gone_on, reading}
use Rattle.description.proofs.TurnLaws.{turn_word, turn_on, turn_wrong, turn_end, turn_cut}
use Rattle.expecting.specs.Expecting.{Asks, Expects, openings, Leads, Led}
use Rattle.entries.specs.declared.Gathered.{Gathered}
use Rattle.entries.specs.Entering.{maybe, meant, Enterable, Enters}
use Rattle.block.specs.Blocks.{Reading}

---- The end of the block -------------------------------------------------------------------------------------------------------

module _ {t : List ℕ} {q : ℕ} (x : Said) where
  pub behind-word : {w : Word} → NextWord t q (Ok (Some w)) → Err (record { place = w.from }) ≡ reading t q (State.done x)
  unfolding step
  behind-word n = sym (turn_wrong (State.done x) n refl)

  pub behind-end : NextWord t q (Ok None) → Ok x ≡ reading t q (State.done x)
  behind-end n = sym (turn_end (State.done x) n)

  pub behind-cut : {e : Wrong} → NextWord t q (Err e) → Err e ≡ reading t q (State.done x)
  behind-cut n = sym (turn_cut (State.done x) n)

-- a word that must be this one says nothing more
only : (b : Bool) (s : State) → when b s ≡ given (cond b (some 0) none) (λ _. s)
only true s = refl
only false s = refl

asks_last : (x : Said) → Asks (State.last x) (meaning K.Block) (λ _. State.done x)
unfolding step
asks_last x = record { word = λ w. only (same w xcp_on_usb) (State.done x); early = λ n. refl }

module _ {t : List ℕ} {q : ℕ} (x : Said) where
  pub last_on : {n k : ℕ} {o : Outcome} → Expects (meaning K.Block) t q (Ok (n, k)) → o ≡ reading t k (State.done x)
      → o ≡ reading t q (State.last x)
  last_on e j = j ∙ sym (e.is (State.last x) (λ _. State.done x) (asks_last x))

  pub last-wrong : {d : Wrong} → Expects (meaning K.Block) t q (Err d) → Err d ≡ reading t q (State.last x)
  last-wrong e = sym (e.is (State.last x) (λ _. State.done x) (asks_last x))

---- Entries --------------------------------------------------------------------------------------------------------------------

-- entries are to come, behind this header
abbrev behind_header : ℕ → State
behind_header h = State.inside (record { header = h; cmd = none; res = none }) []

-- from entry to entry
module _ {t : List ℕ} {q h k : ℕ} {g : Gathered} (v : Reading t q h k g) where
  module _ {w : Word} (n : NextWord t k (Ok (Some w))) where
    module _ (b : slice w.from w.to t ≡ begin) where
      pub entry_enterable : Enterable t w.to
      entry_enterable =
          let l : w.to - w.from ≡ 6 = sym (length-slice w.from w.to t n.within.2) ∙ ap length b in
          record { short = v.able.short; inside = n.within.2; behind = omega arith }

      to-begin : reading t q (behind_header h) ≡ reading t w.to (State.begun (meant g) [])
      unfolding step
      to-begin = v.is ∙ turn_on (State.inside (meant g) []) n (rw b)

      pub entry-on : {f : Gathered} {p : ℕ} → Enters t (State.begun (meant g) []) w.to (Ok (f, p)) → Reading t q h p f
      entry-on y = record { able = record { short = v.able.short; inside = y.place.1 }; is = to-begin ∙ y.is }

      pub entry-wrong : {e : Wrong} → Enters t (State.begun (meant g) []) w.to (Err e) → Err e ≡ reading t q (behind_header h)
      entry-wrong y = sym (to-begin ∙ y.is)

    pub entries-end : {o : Outcome} → slice w.from w.to t ≡ end → o ≡ gone_on w.from (reading t w.to) (whole g.header (maybe g.cmd) (maybe g.res))
        → o ≡ reading t q (behind_header h)
    unfolding step
    entries-end b i = sym (v.is ∙ turn_word (State.inside (meant g) []) n ∙ rw b (sym i))

    module _ (b : plain (slice w.from w.to t) ≡ true) where
      pub word-on : Reading t q h w.to g
      unfolding step
      word-on =
          let p : Plain (slice w.from w.to t) = plain-is b in
          record {
            able = record { short = v.able.short; inside = n.within.2 };
            is = v.is ∙ turn_on (State.inside (meant g) []) n (rw (p.unbegin, p.unend));
          }

---- The opening words ----------------------------------------------------------------------------------------------------------

opening-leads : Leads openings State.first [] (λ vs. behind_header (get_or vs 6 0))
unfolding step
opening-leads = (
  λ _. State.named,
  record { word = λ w. only (same w begin) State.named; early = λ n. refl },
  λ a. (
    λ _. State.numbers 4,
    record { word = λ w. only (same w xcp_on_usb) (State.numbers 4); early = λ n. refl },
    λ b. (
      λ _. State.numbers 3,
      record { word = λ w. refl; early = λ n. refl },
      λ c. (
        λ _. State.numbers 2,
        record { word = λ w. refl; early = λ n. refl },
        λ d. (
          λ _. State.numbers 1,
          record { word = λ w. refl; early = λ n. refl },
          λ e. (
            λ _. State.numbers 0,
            record { word = λ w. refl; early = λ n. refl },
            λ f. (
              behind_header,
              record { word = λ w. refl; early = λ n. refl },
              λ h. refl,
            ),
          ),
        ),
      ),
    ),
  ),
)

module _ {t : List ℕ} where
  pub block-entries : {vs : List ℕ} {k : ℕ} {o : Outcome} → Led openings t 0 (Ok (vs, k)) → o ≡ reading t k (behind_header (get_or vs 6 0))
      → o ≡ reading t 0 State.first
  block-entries l i = i ∙ sym (l.is State.first (λ vs. behind_header (get_or vs 6 0)) opening-leads)

  pub block-wrong : {e : Wrong} → Led openings t 0 (Err e) → Err e ≡ reading t 0 State.first
  block-wrong l = sym (l.is State.first (λ vs. behind_header (get_or vs 6 0)) opening-leads)
