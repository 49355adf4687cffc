-- Where a message or a rest stands, LEN tells which, and no rule need be tested.
use Prim.Native.Nat.{ℕ, ◌+◌, ◌≤◌, min}
use native.Mathlib.Omega.{arith}
use mathlib.Core.Path.{◌≡◌, refl, sym, ◌∙◌}
use mathlib.Core.Bool.{Bool, true, false, cond, not, ◌&&◌, ◌||◌, or-true}
use mathlib.Core.List.{List}
use lib.ListN.{length}
use lib.Dec.{leb, eqb}
use borrow.Author.Rules.{rules}
use borrow.Author.Tests.{leb-true, le-leb, ne_eqb}
use Rattle.packet.specs.declared.At.{At}
use Rattle.packet.specs.declared.Found.{Found}
use Rattle.packet.specs.Seen.{Seen, Seen as S}
use Rattle.plan.specs.declared.Plan.{Plan}
use Rattle.plan.specs.Place.{rests, header_at, packet_after, on_at, Beyond}
use Rattle.plan.proofs.CaseLaws.{by_test}
use Rattle.plan.proofs.PlaceLaws.{rests_true}
use Rattle.reading.specs.Step.{len_at, past_at, head, len, there, next_at, seen, Says}
use Rattle.reading.specs.Loops.{Header, Len, Findable, FoundAs, Ahead, Going, Finds}
use Rattle.reading.proofs.ViewLaws.{View, View.rest, View.empty, View.cut, View.zeroed, View.nothing, View.over, View.past, View.message, view}

-- where LEN is read, the header lies inside the input; so LEN is what the step sees, and tells whether it sees a rest or a message
record Turn (p : Plan) (t : List ℕ) (a : At) : Type 0 where
  inside : not (rests p) || leb (head p t a + p.size) a.end ≡ true → head p t a + p.size ≤ length t
  len_is : len_at (rests p) p t (head p t a) a.end ≡ len p t a
  is : cond (rests p && eqb (len p t a) 0) (S.Rest (packet_after p a)) (S.Message (there p t a) (next_at p t a)) ≡ seen p t a
  says : rests p && eqb (len p t a) 0 ≡ false → Says p t a

module _ {p : Plan} {t : List ℕ} {a : At} where
  turn : {v : Seen} → View p t a v → v ≡ seen p t a → Ahead (λ m. Unit {0}) v → Turn p t a
  turn (rest g u z l) e h =
      let r = rests_true p g u in
      let m : min a.end (length t) ≡ a.end = omega arith in
      record {
        inside = λ y. omega (arith, leb-true (head p t a + p.size) a.end (rw r at y));
        len_is = rw (r, m);
        is = rw (r, z) e;
        says = λ y. let c : true ≡ false = rw (r, z) at y in let i : ◌≡◌ {A = ℕ} 0 1 = cc in absurd (omega arith);
      }
  turn (message s f l) e h =
      let z = ne_eqb (len p t a) 0 (omega (arith, s.some)) in
      let g = le-leb (head p t a + p.size) a.end (omega (arith, s.fits)) in
      record {
        inside = λ y. omega (arith, s.fits);
        len_is = rw (g, or-true) (sym s.is);
        is = by_test (rests p) (λ r. rw (r, z) e) (λ r. rw r e);
        says = λ y. s;
      }
  turn (empty f z l) e h = absurd h
  turn (cut f l u) e h = absurd h
  turn (zeroed f z l) e h = absurd h
  turn (nothing z f g i) e h = absurd h
  turn (over s f l) e h = absurd h
  turn (past s f l) e h = absurd h

  module _ (g : Going p t a) {h : ℕ} (e : Beyond (header_at p a.q) a.q h) {tests : Bool} (f : tests ≡ rests p) where
    here : Turn p t a
    here = turn (view p t a) refl g.ahead

    pub some-header : Header tests p t h a.end
    some-header = let i = here.inside in let s = g.standing in rw (f, e.is) (search rules)

    module _ {n : ℕ} (l : Len tests p t h a.end n) {y : Bool} (o : y ≡ (tests && eqb n 0)) where
      n_is : n ≡ len p t a
      n_is = l.is ∙ rw (f, e.is) here.len_is

      tested : rests p && eqb (len p t a) 0 ≡ y
      tested = sym (o ∙ rw (f, n_is))

      pub finds_rest : y ≡ true → {b : At} → b ≡ packet_after p a → Finds p t a (S.Rest b)
      finds_rest z i = record { is = rw i (rw (tested ∙ z) at here.is); counts = tt }

      module _ (z : y ≡ false) where
        pub findable : Findable p t h
        findable = let s = g.standing in let i = here.says (tested ∙ z) in search rules

        pub finds_message : {behind : ℕ} → Beyond (past_at p (h + p.size + n)) (h + p.size + n) behind → {m : Found}
            → FoundAs p t h n m → {b : At} → b ≡ on_at p a behind → Finds p t a (S.Message m b)
        finds_message u v i =
            record { is = rw (i, u.is, v.is, n_is, e.is) (rw (tested ∙ z) at here.is); counts = v.counter }

pub ruleset findings = (some-header, finds_rest, findable, finds_message)
