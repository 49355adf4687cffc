-- A frame's first packet, and those behind it, which carry no counter.
use Prim.Native.Nat.{ℕ, ◌+◌, ◌<◌, ◌≤◌}
use native.Mathlib.Omega.{arith}
use mathlib.Core.Path.{◌≡◌, refl, sym, ap, ◌∙◌}
use mathlib.Core.List.{List, [], ◌∷◌}
use lib.ListN.{length}
use lib.Seq.{sets, length-sets}
use borrow.Author.Rules.{rules}
use borrow.Author.Tests.{ne_eqb, lt-ltb, le-ltb}
use Rattle.layout.specs.Walk.{Out, before, after, Out.list, Out.refused}
use Rattle.layout.proofs.MultipleLaws.{aligned_power}
use Rattle.layout.proofs.WalkLaws.{walk_eq}
use Rattle.packet.specs.declared.At.{At}
use Rattle.packet.specs.declared.Counter.{Counter}
use Rattle.packet.specs.declared.Found.{Found}
use Rattle.packet.specs.Seen.{Seen as S}
use Rattle.packet.specs.Counter.{advance}
use Rattle.packet.specs.Message.{Msg}
use Rattle.packet.specs.Row.{row, numbers}
use Rattle.packet.specs.Seen.{message, as_step}
use Rattle.packet.proofs.RowLaws.{state_unread, state_unaltered}
use Rattle.plan.specs.declared.Plan.{Plan}
use Rattle.plan.proofs.CaseLaws.{by_less}
use Rattle.reading.specs.Loops.{Standing}
use Rattle.reading.specs.Reads.{reads}
use Rattle.reading.proofs.LoopLaws.{counted-list}
use Rattle.reading.proofs.WalkLaws.{ahead-reads}
use Rattle.rows.specs.Count.{Judged}
use Rattle.rows.specs.Count.{Judged.Rows, Judged.Refused}
use Rattle.rows.specs.Count.{counted, JudgedAs}
use Rattle.rows.specs.Counters.{Sane}
use Rattle.rows.specs.Fill.{Filled.filled, fill_of, filling}
use Rattle.rows.specs.Rows.{Putting, Put}
use Rattle.rows.proofs.CountLaws.{counted-before}
use Rattle.flexray.specs.Setting.{moved}
use Rattle.flexray.specs.Reading.{packet_at, seen, step, ahead}
use Rattle.flexray.specs.Row.{frame_table, frame_state}
use Rattle.flexray.proofs.ReadLaws.{forward}
use Rattle.flexray_plan.specs.Plan.{setting, further_of}
use Rattle.flexray_reader.specs.Reads.{framing, Given, First, Following, Fillable}
use Rattle.flexray_reader.proofs.StepLaws.{Stands, tells}

-- the frame's first row is written with its counter, and then the others with none
first-before : (d w : ℕ) (rows : List ℕ) (c : Counter) (m : Msg) (o : Out Msg)
    → fill_of (frame_table d w c) (frame_state w c) rows 0 (before (m ∷ []) o)
    ≡ filling d 0 (sets rows 0 (numbers (row d w c m))) 5 (advance w 1 c m.ctr) o
unfolding frame_table frame_state moved
first-before d w rows c m (list ms) = rw (state_unread d (advance w 1 c m.ctr) c ms, state_unaltered (advance w 1 c m.ctr) ms)
first-before d w rows c m (refused a q) = refl

-- a refusal at the start
pub refuses : {o : Out Msg} {n most : ℕ} → o ≡ refused n 0 → JudgedAs 0 o most (Refused n 0)
refuses e = record { is = ap (counted 0) (sym e); small = omega arith }

-- the place behind the first packet
abbrev behind : List ℕ → Found → At
behind t m = record { q = m.at + m.len; end = length t }

---- The first packet -----------------------------------------------------------------------------------------------------------

module _ {p : Plan} {t : List ℕ} (g : Given p t) where
  ---- What is ahead of the frame's start -------------------------------------------------------------------------------------

  module _ {m : Found} (f : First p t m) where
    ahead-by : ahead (setting p) t 0
        ≡ after (ahead (setting p) t) (as_step t (packet_at t (S.Refused 6 0) (S.Refused 5 0) m.at m.len m.ctr))
    unfolding ahead seen
    ahead-by = rw (walk_eq (step (setting p) t) (length t) (forward (setting p) t) 0, f.is)

    pub empty : m.len ≡ 0 → JudgedAs 0 (ahead (setting p) t 0) (length t) (Refused 6 0)
    empty z = refuses (ahead-by ∙ rw z)

    pub past : (m.len ≡ 0 → ⊥) → length t < m.at + m.len → JudgedAs 0 (ahead (setting p) t 0) (length t) (Refused 5 0)
    past z l = refuses (ahead-by ∙ rw (ne_eqb m.len 0 z, lt-ltb (length t) (m.at + m.len) l))

    module _ (z : m.len ≡ 0 → ⊥) (l : m.at + m.len ≤ length t) where
      standing : Standing (further_of p) t (behind t m)
      standing = let r = g.ready in search rules

      told : ahead (setting p) t 0 ≡ before (message t m ∷ []) (reads (further_of p) t (behind t m))
      told =
          let s : Stands t (behind t m) = record { begun = omega (arith, f.at, g.ready.size-least); end = refl } in
          let e = ahead-reads (ahead (setting p) t) (Stands t) (tells p t) standing s in
          ahead-by ∙ rw (ne_eqb m.len 0 z, le-ltb (length t) (m.at + m.len) l) (ap (before (message t m ∷ [])) e)

      same : counted 0 (ahead (setting p) t 0) ≡ counted 1 (reads (further_of p) t (behind t m))
      same = ap (counted 0) told ∙ counted-before 0 (message t m) (reads (further_of p) t (behind t m))

      pub judged-behind : {k : Plan} {r : Judged} → k ≡ further_of p → JudgedAs 1 (reads k t (behind t m)) (length t) r
          → JudgedAs 0 (ahead (setting p) t 0) (length t) r
      judged-behind e j = record { is = (rw e at j.is) ∙ sym same; small = j.small }

---- The rows of a frame that has some ------------------------------------------------------------------------------------------

module _ {p : Plan} {t : List ℕ} {c : Counter} {k n : ℕ} (h : Fillable p t c k n) {m : Found} (f : First p t m) where
  clash : {a q : ℕ} → JudgedAs 0 (ahead (setting p) t 0) (length t) (Refused a q) → ⊥
  clash j = let e = h.rows ∙ sym j.is in let z : ◌≡◌ {A = ℕ} 0 1 = cc in omega arith

  -- it has a first packet, which fits
  some : m.len ≡ 0 → ⊥
  some z = clash (empty h.given f z)

  fits : m.at + m.len ≤ length t
  fits = by_less (length t) (m.at + m.len) (λ l. absurd (clash (past h.given f some l))) (λ l. l)

  further-rows : Rows k ≡ counted 1 (reads (further_of p) t (behind t m))
  further-rows = h.rows ∙ same h.given f some fits

  pub putting : Putting p.direction p.ctrwidth t c m 0 n
  putting =
      let g = h.given in
      let r = g.ready in
      let z = some in
      let l = fits in
      let (ms, i, o) = counted-list 1 k (reads (further_of p) t (behind t m)) further-rows in
      search rules

  module _ {rows new : List ℕ} {r : Counter} (u : Put p.direction p.ctrwidth t c m 0 rows new r) where
    pub following : length rows ≡ n → {j : Plan} → j ≡ further_of p → Following j t (behind t m) r k (length new)
    following i e =
        let y = ap length u.rows ∙ length-sets rows 0 (numbers (row p.direction p.ctrwidth c (message t m))) in
        let s = standing h.given f some fits in
        let a = aligned_power h.given.ready.aligned in
        let x = further-rows in
        let z : Sane 0 r = record { below = λ x v. absurd (omega arith) } in
        rw e (search rules)

    pub framed : {j : Plan} → j ≡ further_of p → {last : List ℕ} {s : Counter}
        → filled last s ≡ filling j.direction j.ctrwidth new 5 r (reads j t (behind t m)) → filled last s ≡ framing p t c rows
    framed i e =
        let x = first-before p.direction p.ctrwidth rows c (message t m) (reads (further_of p) t (behind t m)) in
        (rw i at e) ∙ sym (rw (h.walked, told h.given f some fits, u.rows, u.state) x)

pub ruleset frames = (rules, empty, past, judged-behind, putting, following, framed)
