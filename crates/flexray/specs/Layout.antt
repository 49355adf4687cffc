-- The FlexRay layout (document 01, 'FlexRay settings and layout'): what it is for the bytes of a frame to hold packets. Nothing here reads.
-- Places count from the frame's start.
use Rattle.std.specs.Prelude.{ℕ, ◌+◌, ◌%◌, ◌<◌, ◌≤◌, ◌≡◌, true, List, [], ◌∷◌, ◌++◌, length}
use Rattle.layout.specs.Field.{says, Name.NAX, Name.LEN, Name.CTR}
use Rattle.packet.specs.Message.{Msg}
use Rattle.flexray.specs.declared.Setting.{Setting}
use Rattle.flexray.specs.Setting.{fields, H, L, start, sound}

-- a frame's length is even and at most F
pub record Evened (s : Setting) (t : List ℕ) : Type 0 where
  pub even : length t % 2 ≡ 0
  pub most : length t ≤ s.ceiling

-- it is at least H + 1, and NAX equals the node
pub record Sized (s : Setting) (t : List ℕ) : Type 0 where
  pub evened : Evened s t
  pub least : H s + 1 ≤ length t
  pub nax : says NAX (fields s) t 0 ≡ s.node

-- header h, first packet b, and the bytes bs behind it
pub record First (s : Setting) (h b bs : List ℕ) : Type 0 where
  pub header : length h ≡ H s
  pub some : 0 < length b
  -- without LEN the one packet is everything behind the header
  pub all : L s ≡ 0 → bs ≡ []
  pub len : 0 < L s → says LEN (fields s) h 0 ≡ length b

-- Behind a packet that ends at place q the bytes hold these further packets, up to place e, where the last one ends and the bytes cs are left.
-- Before each stand free bytes f and its LEN
pub data Further (a e : ℕ) (cs : List ℕ) : ℕ → List Msg → List ℕ → Type 0 where
  here : Further a e cs e [] cs
  next : {q : ℕ} (f b : List ℕ) {bs : List ℕ} {ms : List Msg} → q + length f + 1 ≡ start a q → 0 < length b
      → Further a e cs (start a q + length b) ms bs
      → Further a e cs q (record { at = start a q; packet = b; ctr = 0 } ∷ ms) (f ++ (length b ∷ (b ++ bs)))

-- the frame's bytes hold these packets, up to place e, where the bytes cs are left. Only the first carries CTR
pub data Laid (s : Setting) (e : ℕ) (cs : List ℕ) : List Msg → List ℕ → Type 0 where
  frame : (h b : List ℕ) {bs : List ℕ} {ms : List Msg} → First s h b bs → Further s.align e cs (H s + length b) ms bs
      → Laid s e cs (record { at = H s; packet = b; ctr = says CTR (fields s) h 0 } ∷ ms) (h ++ (b ++ bs))

-- behind the last packet, which ends at place e, the place where the next LEN would stand is outside the frame or holds zero
pub data Closed (a e : ℕ) : List ℕ → Type 0 where
  outside : (r : List ℕ) → e + length r < start a e → Closed a e r
  zeroed : (f r : List ℕ) → e + length f + 1 ≡ start a e → Closed a e (f ++ (0 ∷ r))

-- a frame, which holds these packets and nothing else
pub record Frame (s : Setting) (ms : List Msg) (t : List ℕ) : Type 0 where
  pub setting : sound s ≡ true
  pub sized : Sized s t
  pub end : ℕ
  pub left : List ℕ
  pub laid : Laid s end left ms t
  pub closed : Closed s.align end left
