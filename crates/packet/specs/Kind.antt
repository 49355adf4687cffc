-- Kinds (document 01, 'Counters and kinds'): by the direction and the packet's first byte.
use Rattle.std.specs.Prelude.{ℕ, Bool, cond, List, length, ◌==◌, nat_le, slice_index}

-- RES, ERR, EV, SERV, DAQ
abbrev pub slave : ℕ → ℕ
slave b = cond (b == 0xFF) 1 (cond (b == 0xFE) 2 (cond (b == 0xFD) 3 (cond (b == 0xFC) 4 5)))

-- CMD, STIM
abbrev pub master : ℕ → ℕ
master b = cond (nat_le 0xC0 b) 6 7

-- of a packet that has bytes, by whether it comes from the slave
abbrev pub kind_from : Bool → List ℕ → ℕ
kind_from slaves p = cond slaves (slave (slice_index p 0)) (master (slice_index p 0))

-- direction 0 is from the slave, 1 from the master; 0 where there is no byte, and for any other direction
abbrev pub kind_of : ℕ → List ℕ → ℕ
kind_of d p =
    cond (length p == 0) 0
    (cond (d == 0) (slave (slice_index p 0)) (cond (d == 1) (master (slice_index p 0)) 0))
