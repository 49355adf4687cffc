-- What the functions about counters ask and tell, over the counter's width w in bytes; a width of 0 is no counter.
use Rattle.std.specs.Prelude.{ℕ, ◌^◌, ◌<◌, ◌≤◌, ◌≡◌}
use Rattle.packet.specs.declared.Counter.{Counter}
use Rattle.packet.specs.Counter.{next, advance}

-- a width that a counter can have
pub record Narrow (w : ℕ) : Type 0 where
  pub narrow : w ≤ 2

-- numbers of a counter; any expected one where there is none
pub record Parted (w n e : ℕ) : Type 0 where
  pub narrow : w ≤ 2
  pub received : n < 256 ^ w
  pub expected : 0 < w → e < 256 ^ w

-- a counter that a message can say; any number where there is none
pub record Said (w n : ℕ) : Type 0 where
  pub narrow : w ≤ 2
  pub below : 0 < w → n < 256 ^ w

pub record After (w n r : ℕ) : Type 0 where
  pub is : r ≡ next w n
  pub below : 0 < w → r < 256 ^ w

-- an expected counter, where it is known, is one that a message can say
pub record Sane (w : ℕ) (c : Counter) : Type 0 where
  pub below : 0 < w → 0 < c.known → c.expected < 256 ^ w

pub record Counted (w : ℕ) (c : Counter) (n : ℕ) : Type 0 where
  pub narrow : w ≤ 2
  pub below : n < 256 ^ w
  pub sane : Sane w c

pub record Advanced (w : ℕ) (c : Counter) (n : ℕ) (r : Counter) : Type 0 where
  pub is : r ≡ advance w 1 c n
  pub sane : Sane w r
