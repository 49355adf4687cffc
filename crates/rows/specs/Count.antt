-- Judging: the rows of what is read, counted, or the first refusal. It is the same for every layout; only what is ahead differs.
use Rattle.std.specs.Prelude.{ℕ, ◌+◌, ◌≤◌, ◌≡◌, length, Result, Ok, Err}
use Rattle.layout.specs.Walk.{Out, Out.list, Out.refused}
use Rattle.packet.specs.declared.Refusal.{Refusal}
use Rattle.packet.specs.Message.{Msg}
use Rattle.packet.specs.Said.{number_of}

-- how many rows an input has, or its first refusal's number and place
pub data Judged : Type 0 where
  Rows : ℕ → Judged
  Refused : ℕ → ℕ → Judged

-- .. as the code says it
abbrev pub judged_said : Result ℕ Refusal → Judged
judged_said (Ok k) = Rows k
judged_said (Err e) = Refused (number_of e.reason) e.place

-- behind k rows
abbrev pub counted : ℕ → Out Msg → Judged
counted k (list ms) = Rows (k + length ms)
counted k (refused n p) = Refused n p

-- a count or a place of at most n
abbrev pub Small : ℕ → Judged → Type 0
Small n (Rows k) = k ≤ n
Small n (Refused a q) = q ≤ n

-- what is ahead behind j rows of an input of n bytes is judged to be r
pub record JudgedAs (j : ℕ) (ahead : Out Msg) (n : ℕ) (r : Judged) : Type 0 where
  pub is : r ≡ counted j ahead
  pub small : Small n r
