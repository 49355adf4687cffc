-- What a frame is judged to be by its length and its node; and the answer to it.
use Prim.Native.Nat.{ℕ, ◌+◌, ◌*◌, ◌%◌, ◌<◌, ◌≤◌}
use native.Mathlib.Omega.{arith}
use mathlib.Core.Path.{◌≡◌, refl, sym, ap, ◌∙◌}
use mathlib.Core.Bool.{true, false}
use mathlib.Core.List.{List}
use lib.ListN.{length}
use borrow.Author.Rules.{rules}
use Rattle.layout.specs.Field.{says, Name.NAX}
use Rattle.layout.specs.Leaf.{Number}
use Rattle.layout.specs.Walk.{Out.refused}
use Rattle.packet.specs.declared.Counter.{Counter}
use Rattle.packet.specs.Reading.{Reading, Reading as R}
use Rattle.packet.specs.Counter.{valid}
use Rattle.packet.specs.Answer.{Gives}
use Rattle.packet.proofs.AnswerLaws.{gives, gives_so}
use Rattle.rows.specs.Count.{Judged}
use Rattle.rows.specs.Count.{Judged.Rows, Judged.Refused}
use Rattle.rows.specs.Count.{counted, Small, JudgedAs}
use Rattle.rows.specs.Fill.{Filled.filled}
use Rattle.reading.proofs.LoopLaws.{counted-list}
use Rattle.rows.proofs.AnswerLaws.{not_sound, not_judged, is-refused, is_crowded, is-given}
use Rattle.rows.proofs.CounterLaws.{sane}
use Rattle.flexray.specs.declared.Setting.{Setting}
use Rattle.flexray.specs.Setting.{fields, W, most_ceiling}
use Rattle.flexray.specs.Layout.{Evened, Sized}
use Rattle.flexray.specs.Reading.{ahead, judged, read_of}
use Rattle.flexray.proofs.ReadLaws.{judged-is, read_sound}
use Rattle.flexray.proofs.ReadLaws.{Judged as Why}
use Rattle.plan.specs.declared.Plan.{Plan}
use Rattle.std.specs.Prelude.{Some, None}
use Rattle.flexray_plan.specs.Plan.{setting, planned_of, Ready}
use Rattle.flexray_plan.proofs.PlanLaws.{planned-ready, unplanned}
use Rattle.flexray_reader.specs.Reads.{framing, Fillable, answer_to}
use Rattle.flexray_reader.proofs.FrameLaws.{refuses}

---- A frame's length and node --------------------------------------------------------------------------------------------------

-- a count or a place that is small stays so under a higher bound
smaller : (n m : ℕ) (r : Judged) → n ≤ m → Small n r → Small m r
smaller n m (Rows k) h l = omega arith
smaller n m (Refused a q) h l = omega arith

module _ {p : Plan} (k : Ready p) (t : List ℕ) where
  -- what the frame is judged to be
  abbrev IsJudged : Judged → Type 0
  IsJudged r = JudgedAs 0 (judged (setting p) t) most_ceiling r

  why_refused : {n : ℕ} → Why (setting p) t (refused n 0) → IsJudged (Refused n 0)
  why_refused w = refuses (judged-is _ _ w)

  walk_is : Sized (setting p) t → judged (setting p) t ≡ ahead (setting p) t 0
  walk_is z = judged-is (setting p) t (Why.walks k.ok z refl)

  pub odd : length t % 2 ≡ 1 → IsJudged (Refused 8 0)
  odd h = why_refused (Why.odd k.ok h)

  pub long : p.datapacket < length t → IsJudged (Refused 8 0)
  long h = why_refused (Why.long k.ok h)

  module _ (e : length t % 2 ≡ 1 → ⊥) (m : length t ≤ p.datapacket) where
    evened : Evened (setting p) t
    evened = record { even = omega arith; most = m }

    pub short : length t < p.size + 1 → IsJudged (Refused 6 0)
    short h = why_refused (Why.short k.ok evened (omega (arith, k.size)))

    module _ (l : p.size + 1 ≤ length t) {n : ℕ} (f : Number t 0 1 n) where
      nax : n ≡ says NAX (fields (setting p)) t 0
      nax = f.is ∙ rw (k.naxat, k.naxwidth)

      pub other : (n ≡ p.node → ⊥) → IsJudged (Refused 7 0)
      other h = why_refused (Why.other k.ok evened (omega (arith, k.size)) (λ e. h (nax ∙ e)))

      pub own : n ≡ p.node → {r : Judged} → JudgedAs 0 (ahead (setting p) t 0) (length t) r → IsJudged r
      own h {r} j =
          let z : Sized (setting p) t = record { evened = evened; least = omega (arith, k.size); nax = sym nax ∙ h } in
          let i : length t ≤ most_ceiling = omega (arith, k.ceiling-most) in
          record { is = j.is ∙ ap (counted 0) (sym (walk_is z)); small = smaller (length t) most_ceiling r i j.small }

---- The answer -----------------------------------------------------------------------------------------------------------------

-- it is as long as a frame is to be, and was walked
pub fillable : {p : Plan} {t : List ℕ} {c : Counter} {k n : ℕ} → Ready p → true ≡ valid p.ctrwidth c
    → JudgedAs 0 (judged (setting p) t) most_ceiling (Rows k) → 5 * k ≤ n → Fillable p t c k n
fillable {p} {t} {k = k} y v j l =
    let (ms, u, d) = counted-list 0 k (judged (setting p) t) j.is in
    let z = (read_sound (setting p) t ms u).sized in
    let w = walk_is y t z in
    let e = j.is ∙ ap (counted 0) w in
    let x = sane (sym v) in
    search rules

pub ready : (s : Setting) {p : Plan} → Some p ≡ planned_of s → Ready p
ready s i = (planned-ready i).1

-- by a plan
module _ {p : Plan} (k : Ready p) (t : List ℕ) (c : Counter) (rows : List ℕ) where
  over : false ≡ valid p.ctrwidth c → Gives (read_of (setting p) t c rows) (R.Refused 1 0) rows
  unfolding read_of
  over v = gives (rw (← k.ctrwidth, ← v) (not_judged _ _ _ _ _))

  held-by : true ≡ valid p.ctrwidth c → {r : Reading} {new : List ℕ} → Gives (answer_to p t c rows) r new
      → Gives (read_of (setting p) t c rows) r new
  unfolding read_of
  held-by v = gives_so (rw (← k.ctrwidth, ← v))

module _ (s : Setting) (t : List ℕ) (c : Counter) (rows : List ℕ) where
  -- a refusal with n at q, which leaves the table
  abbrev Refuses : (n q : ℕ) → Type 0
  Refuses n q = Gives (read_of s t c rows) (R.Refused n q) rows

  -- for every state
  pub unsound : None ≡ planned_of s → Refuses 1 0
  unfolding read_of judged
  unsound i = gives (rw (unplanned s i) (not_sound _ _ _ (valid (W s) c)))

  module _ {p : Plan} (i : Some p ≡ planned_of s) where
    pub not-valid : false ≡ valid p.ctrwidth c → Refuses 1 0
    not-valid v = let (f, k) = planned-ready i in rw f at (over k t c rows v)

    module _ (v : true ≡ valid p.ctrwidth c) where
      held : {r : Reading} {new : List ℕ} → Gives (answer_to p t c rows) r new → Gives (read_of s t c rows) r new
      held g = let (f, k) = planned-ready i in rw f at (held-by k t c rows v g)

      pub refused-so : {n q : ℕ} → JudgedAs 0 (judged (setting p) t) most_ceiling (Refused n q) → Refuses n q
      refused-so j = held (is-refused _ _ _ j (record { answer = refl; lent = refl }))

      pub crowded : {k : ℕ} → JudgedAs 0 (judged (setting p) t) most_ceiling (Rows k) → length rows < 5 * k → Refuses 4 0
      crowded j l = held (is_crowded _ _ _ j l (record { answer = refl; lent = refl }))

pub rows-given : (s : Setting) (t : List ℕ) (c : Counter) (rows : List ℕ) {p : Plan} → Some p ≡ planned_of s
    → true ≡ valid p.ctrwidth c → {k : ℕ} → JudgedAs 0 (judged (setting p) t) most_ceiling (Rows k) → 5 * k ≤ length rows
    → {new : List ℕ} {d : Counter}
    → filled new d ≡ framing p t c rows → Gives (read_of s t c rows) (R.Rows k d) new
rows-given s t c rows i v j l f = held s t c rows i v (is-given _ _ _ j l f)

---- For search -----------------------------------------------------------------------------------------------------------------

pub ruleset judges = (odd, long, short, other, own)
