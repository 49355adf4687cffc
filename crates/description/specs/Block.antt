-- The XCP_ON_USB block (document 000, chapter 4; Ask 1), as a grammar on words. Nothing here reads.
-- `X .. vs ws` says that the words ws are an X and then the words vs.
use Rattle.std.specs.Prelude.{ℕ, ◌≡◌, true, List, [], ◌∷◌}
use Rattle.std.proofs.Math.Option.{Option, none, some}
use Rattle.description.specs.declared.Endpoint.{Endpoint}
use Rattle.description.specs.declared.Said.{Said}
use Rattle.keywords.specs.declared.Side.{Side}
use Rattle.keywords.specs.declared.Side.TheVariants.{Cmd, Res}
use Rattle.keywords.specs.Tables.{Text, begin, end, xcp_on_usb, name, plain, ordinary}
use Rattle.keywords.specs.Tables.{number, header, transfer, packing, alignment}

-- a word of this kind, whatever it says
abbrev pub Any : (Text → Option ℕ) → Text → Type 0
Any kind w = (n : ℕ) × (kind w ≡ some n)

-- words and paired blocks, read over
pub data Over : List Text → List Text → Type 0 where
  here : {vs : List Text} → Over vs vs
  word : {w : Text} {vs ws : List Text} → plain w ≡ true → Over vs ws → Over vs (w ∷ ws)
  paired : {n : Text} {vs us ws : List Text} → plain n ≡ true → Over (end ∷ n ∷ us) ws → Over vs us → Over vs (begin ∷ n ∷ ws)

-- an endpoint block: endpoint number, transfer type, M, polling interval, packing, alignment; what follows is read over
pub data EndpointBlock (k : Side) (e : Endpoint) (vs : List Text) : List Text → Type 0 where
  endpoint : {a b c d p l : Text} {ws : List Text} → Any number a → Any transfer b → number c ≡ some e.datapacket → Any number d
      → packing p ≡ some e.packing → alignment l ≡ some e.align → Over (end ∷ name k ∷ vs) ws
      → EndpointBlock k e vs (begin ∷ name k ∷ a ∷ b ∷ c ∷ d ∷ p ∷ l ∷ ws)

-- entries in any order, among them these endpoints: each at most once
pub data Entries (vs : List Text) : Option Endpoint → Option Endpoint → List Text → Type 0 where
  here : Entries vs none none vs
  word : {w : Text} {ws : List Text} {c r : Option Endpoint} → plain w ≡ true → Entries vs c r ws → Entries vs c r (w ∷ ws)
  paired : {n : Text} {us ws : List Text} {c r : Option Endpoint} → ordinary n ≡ true → Over (end ∷ n ∷ us) ws → Entries vs c r us
      → Entries vs c r (begin ∷ n ∷ ws)
  cmd : {us ws : List Text} {e : Endpoint} {r : Option Endpoint} → EndpointBlock Cmd e us ws → Entries vs none r us → Entries vs (some e) r ws
  res : {us ws : List Text} {e : Endpoint} {c : Option Endpoint} → EndpointBlock Res e us ws → Entries vs c none us → Entries vs c (some e) ws

-- the block: version, vendor, product, interface, header; both endpoints; nothing behind it
pub data Block (x : Said) : List Text → Type 0 where
  block : {a b c d h : Text} {ws : List Text} → Any number a → Any number b → Any number c → Any number d → header h ≡ some x.header
      → Entries (end ∷ xcp_on_usb ∷ []) (some x.cmd) (some x.res) ws
      → Block x (begin ∷ xcp_on_usb ∷ a ∷ b ∷ c ∷ d ∷ h ∷ ws)
