-- A word that the reader takes can stand, and one that it refuses cannot: from every state some words lead to the end of a block.
use Prim.Native.Nat.{ℕ, zero, suc}
use mathlib.Core.Path.{◌≡◌, refl, sym, ap, ◌∙◌}
use mathlib.Core.Option.{Option, none, some, none-ne-some}
use mathlib.Core.List.{List, [], ◌∷◌, ◌++◌}
use Rattle.words.specs.Words.{ascii}
use Rattle.words.proofs.SameLaws.{same_refl}
use Rattle.keywords.specs.declared.Side.{Side}
use Rattle.keywords.specs.declared.Side.TheVariants.{Cmd, Res}
use Rattle.keywords.specs.Tables.{Text, begin, end, xcp_on_usb, name, number, header, transfer, packing, alignment}
use Rattle.description.specs.declared.Endpoint.{Endpoint}
use Rattle.description.specs.declared.Said.{Said}
use Rattle.description.specs.Block.{Block}
use Rattle.description.specs.Standing.{GoesOn, Stops}
use Rattle.description.specs.Reading.{Found, put, State, step, next, on}
use Rattle.description.proofs.BlockLaws.{found, reads}
use Rattle.description.proofs.AheadLaws.{is_block, none-on}

---- Every state can be gone on -------------------------------------------------------------------------------------------------

-- words that lead from a state to the end of a block
record Finish (s : State) : Type 0 where
  rest : List Text
  said : Said
  ends : on (some s) rest ≡ some (State.done said)

by_word : {s : State} (w : Text) {r : State} → step s w ≡ some r → Finish r → Finish s
by_word w e f = record { rest = w ∷ f.rest; said = f.said; ends = rw e f.ends }

finish_whole : (h : ℕ) (c r : Endpoint) → Finish (State.inside (found h (some c) (some r)) [])
unfolding step
finish_whole h c r =
    record { rest = end ∷ xcp_on_usb ∷ []; said = record { header = h; cmd = c; res = r }; ends = refl }

-- out of the blocks that are open
finish_inside : (f : Found) → Finish (State.inside f []) → (ns : List Text) → Finish (State.inside f ns)
unfolding step
finish_inside f e [] = e
finish_inside f e (n ∷ ns) = by_word end refl (by_word n (rw (same_refl n)) (finish_inside f e ns))

-- through an endpoint's parameters
module _ (k : Side) (f : Found) (go : (e : Endpoint) → Finish (State.inside (put k e f) [])) where
  finish_alignments : (m p : ℕ) → Finish (State.alignments k f m p)
  unfolding step alignment
  finish_alignments m p = by_word (ascii "ALIGNMENT_8_BIT") refl (finish_inside _ (go _) (name k ∷ []))

  finish_packings : (m : ℕ) → Finish (State.packings k f m)
  unfolding step packing
  finish_packings m = by_word (ascii "MESSAGE_PACKING_SINGLE") refl (finish_alignments m 0)

  finish_interval : (m : ℕ) → Finish (State.interval k f m)
  unfolding step number
  finish_interval m = by_word (ascii "0") refl (finish_packings m)

  finish_size : Finish (State.size k f)
  unfolding step number
  finish_size = by_word (ascii "0") refl (finish_interval 0)

  finish_transfers : Finish (State.transfers k f)
  unfolding step transfer
  finish_transfers = by_word (ascii "BULK_TRANSFER") refl finish_size

  finish_endpoint : Finish (State.endpoint k f)
  unfolding step number
  finish_endpoint = by_word (ascii "0") refl finish_transfers

-- the endpoints that are not found yet
finish_res : (h : ℕ) (c : Endpoint) (r : Option Endpoint) → Finish (State.inside (found h (some c) r) [])
unfolding step
finish_res h c (some r) = finish_whole h c r
finish_res h c none =
    by_word begin refl (by_word (name Res) refl (finish_endpoint Res (found h (some c) none) (λ e. finish_whole h c e)))

finish_both : (h : ℕ) (c r : Option Endpoint) → Finish (State.inside (found h c r) [])
unfolding step
finish_both h (some c) r = finish_res h c r
finish_both h none r =
    by_word begin refl (by_word (name Cmd) refl (finish_endpoint Cmd (found h none r) (λ e. finish_res h e r)))

finish_in : (f : Found) (ns : List Text) → Finish (State.inside f ns)
finish_in f ns = finish_inside f (finish_both f.header f.cmd f.res) ns

finish_put : (k : Side) (f : Found) (e : Endpoint) → Finish (State.inside (put k e f) [])
finish_put k f e = finish_in (put k e f) []

finish_numbers : (n : ℕ) → Finish (State.numbers n)
unfolding step number header
finish_numbers zero = by_word (ascii "HEADER_LEN_BYTE") refl (finish_in _ [])
finish_numbers (suc n) = by_word (ascii "0") refl (finish_numbers n)

finish : (s : State) → Finish s
unfolding step
finish State.first = by_word begin refl (by_word xcp_on_usb refl (finish_numbers 4))
finish State.named = by_word xcp_on_usb refl (finish_numbers 4)
finish (State.numbers n) = finish_numbers n
finish (State.inside f ns) = finish_in f ns
finish (State.begun f []) = by_word (ascii "A") refl (finish_in f (ascii "A" ∷ []))
finish (State.begun f (n ∷ ns)) = by_word (ascii "A") refl (finish_in f (ascii "A" ∷ n ∷ ns))
finish (State.ended f n ns) = by_word n (rw (same_refl n)) (finish_in f ns)
finish (State.last x) = record { rest = xcp_on_usb ∷ []; said = x; ends = refl }
finish (State.done x) = record { rest = []; said = x; ends = refl }
finish (State.endpoint k f) = finish_endpoint k f (finish_put k f)
finish (State.transfers k f) = finish_transfers k f (finish_put k f)
finish (State.size k f) = finish_size k f (finish_put k f)
finish (State.interval k f m) = finish_interval k f (finish_put k f) m
finish (State.packings k f m) = finish_packings k f (finish_put k f) m
finish (State.alignments k f m p) = finish_alignments k f (finish_put k f) m p

---- The refusal rule -----------------------------------------------------------------------------------------------------------

pub on-append : (o : Option State) (us ws : List Text) → on o (us ++ ws) ≡ on (on o us) ws
on-append o [] ws = refl
on-append o (u ∷ us) ws = on-append (next o u) us ws

-- words that the reader takes can be gone on
pub goes_on : {us : List Text} {s : State} → on (some State.first) us ≡ some s → GoesOn us
goes_on {us} {s} e =
    let f = finish s in
    record {
      rest = f.rest;
      said = f.said;
      block = is_block f.said (on-append (some State.first) us f.rest ∙ rw e f.ends);
    }

-- and those that can be gone on it takes
pub taken : {us : List Text} → GoesOn us → (s : State) × (on (some State.first) us ≡ some s)
taken {us} g = at (on (some State.first) us) refl
  where
    at : (o : Option State) → on (some State.first) us ≡ o → (s : State) × (on (some State.first) us ≡ some s)
    at (some s) e = (s, e)
    at none e =
        let r : on (some State.first) (us ++ g.rest) ≡ some (State.done g.said) = reads g.said g.block in
        absurd
        (none-ne-some (State.done g.said)
        (sym (none-on g.rest) ∙ ap (λ o. on o g.rest) (sym e) ∙ sym (on-append (some State.first) us g.rest) ∙ r))

-- the reader refuses exactly the first word that cannot stand
pub stops : {us : List Text} {w : Text} {s : State} → on (some State.first) us ≡ some s → step s w ≡ none → Stops us w
stops {us} {w} {s} e r =
    record {
      before = goes_on e;
      behind = λ g.
          let (z, k) = taken g in
          none-ne-some z (sym (on-append (some State.first) us (w ∷ []) ∙ rw (e, r)) ∙ k);
    }

pub stopped : {us : List Text} {w : Text} → Stops us w → (s : State) × (on (some State.first) us ≡ some s) × (step s w ≡ none)
stopped {us} {w} h = let (s, e) = taken h.before in (s, e, at s e (step s w) refl)
  where
    at : (s : State) → on (some State.first) us ≡ some s → (o : Option State) → step s w ≡ o → step s w ≡ none
    at s e none k = k
    at s e (some r) k = absurd (h.behind (goes_on {us = us ++ (w ∷ [])} {s = r} (on-append (some State.first) us (w ∷ []) ∙ rw (e, k))))

-- at most one pair of endpoints, and one header, fits
pub said_unique : {x y : Said} {ws : List Text} → Block x ws → Block y ws → x ≡ y
said_unique {x} {y} a b = let p = reads x a in let q = reads y b in cc
