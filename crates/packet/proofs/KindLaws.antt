-- A packet's kind, from its first byte b, as document 01 lists it.
use Rattle.std.proofs.Common.{◌≡◌, ℕ, suc, ◌≤◌, List, ◌∷◌, length, ◌∙◌, arith, ne_eqb, le-leb}
use borrow.Author.Tests.{lt-leb}
use Rattle.packet.specs.Kind.{slave, master, kind_of}

module _ (b : ℕ) (bs : List ℕ) where
  by-slave : kind_of 0 (b ∷ bs) ≡ slave b
  by-slave = rw (ne_eqb (suc (length bs)) 0 (λ e. omega arith))

  by-master : kind_of 1 (b ∷ bs) ≡ master b
  by-master = rw (ne_eqb (suc (length bs)) 0 (λ e. omega arith))

  -- from the slave: RES, ERR, EV, SERV, DAQ
  pub slave-kinds : (b ≡ 0xFF → kind_of 0 (b ∷ bs) ≡ 1) × (b ≡ 0xFE → kind_of 0 (b ∷ bs) ≡ 2) × (b ≡ 0xFD → kind_of 0 (b ∷ bs) ≡ 3)
      × (b ≡ 0xFC → kind_of 0 (b ∷ bs) ≡ 4) × (b ≤ 0xFB → kind_of 0 (b ∷ bs) ≡ 5)
  slave-kinds = (λ e. by-slave ∙ rw e, λ e. by-slave ∙ rw e, λ e. by-slave ∙ rw e, λ e. by-slave ∙ rw e, λ l. by-slave ∙ daq l)
    where
      daq : b ≤ 0xFB → slave b ≡ 5
      daq l = rw (ne_eqb b 0xFF (λ e. omega arith), ne_eqb b 0xFE (λ e. omega arith), ne_eqb b 0xFD (λ e. omega arith), ne_eqb b 0xFC (λ e. omega arith))

  -- from the master: CMD, STIM
  pub master-kinds : (0xC0 ≤ b → kind_of 1 (b ∷ bs) ≡ 6) × (b ≤ 0xBF → kind_of 1 (b ∷ bs) ≡ 7)
  master-kinds = (λ l. by-master ∙ rw (le-leb 0xC0 b l), λ l. by-master ∙ rw (lt-leb 0xC0 b (omega arith)))
