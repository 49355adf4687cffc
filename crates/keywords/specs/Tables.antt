-- The words of the description file (document 000, chapter 4.1): names, numbers, and enumerations with the number that each word says.
use Rattle.std.specs.Prelude.{ℕ, suc, ◌+◌, ◌-◌, ◌*◌, Bool, false, cond, not, ◌&&◌, List, [], ◌∷◌, leb, eqb}
use Prim.Native.String.{String}
use Rattle.std.proofs.Math.Option.{Option, none, some}
use Rattle.keywords.specs.declared.Side.{Side}
use Rattle.keywords.specs.declared.Side.TheVariants.{Cmd, Res}
use Rattle.words.specs.Words.{ascii, same}

abbrev pub Text : Type 0
Text = List ℕ

---- Names ----------------------------------------------------------------------------------------------------------------------

abbrev pub begin : Text
begin = ascii "/begin"

abbrev pub end : Text
end = ascii "/end"

abbrev pub xcp_on_usb : Text
xcp_on_usb = ascii "XCP_ON_USB"

-- the name of an endpoint's block
abbrev pub name : Side → Text
name Cmd = ascii "OUT_EP_CMD_STIM"
name Res = ascii "IN_EP_RESERR_DAQ_EVSERV"

-- a word that neither opens nor closes a block
abbrev pub plain : Text → Bool
plain w = not (same w begin) && not (same w end)

-- the name of a block that is no endpoint
abbrev pub ordinary : Text → Bool
ordinary w = plain w && not (same w (name Cmd)) && not (same w (name Res))

---- Enumerations ---------------------------------------------------------------------------------------------------------------

infix 68 ◌is◌
pub data Line : Type 0 where
  ◌is◌ : String → ℕ → Line

-- what a word says by an enumeration
abbrev pub by : List Line → Text → Option ℕ
by [] w = none
by (s is n ∷ ls) w = cond (same w (ascii s)) (some n) (by ls w)

unfoldable pub header : Text → Option ℕ
header =
    by
    ("HEADER_LEN_BYTE" is 0
    ∷ "HEADER_LEN_CTR_BYTE" is 1
    ∷ "HEADER_LEN_FILL_BYTE" is 2
    ∷ "HEADER_LEN_WORD" is 3
    ∷ "HEADER_LEN_CTR_WORD" is 4
    ∷ "HEADER_LEN_FILL_WORD" is 5
    ∷ [])

unfoldable pub transfer : Text → Option ℕ
transfer = by ("BULK_TRANSFER" is 2 ∷ "INTERRUPT_TRANSFER" is 3 ∷ [])

unfoldable pub packing : Text → Option ℕ
packing = by ("MESSAGE_PACKING_SINGLE" is 0 ∷ "MESSAGE_PACKING_MULTIPLE" is 1 ∷ "MESSAGE_PACKING_STREAMING" is 2 ∷ [])

-- in bytes
unfoldable pub alignment : Text → Option ℕ
alignment = by ("ALIGNMENT_8_BIT" is 1 ∷ "ALIGNMENT_16_BIT" is 2 ∷ "ALIGNMENT_32_BIT" is 4 ∷ "ALIGNMENT_64_BIT" is 8 ∷ [])

---- Numbers --------------------------------------------------------------------------------------------------------------------

-- what a byte says as a digit; 16 where it is none
abbrev pub digit : ℕ → ℕ
digit b =
    cond (leb 48 b && leb b 57) (b - 48) (cond (leb 65 b && leb b 70) (b - 55) (cond (leb 97 b && leb b 102) (b - 87) 16))

-- at least one digit, and all below the base
abbrev pub digits : ℕ → Text → Bool
digits base [] = false
digits base (b ∷ []) = leb (suc (digit b)) base
digits base (b ∷ c ∷ t) = leb (suc (digit b)) base && digits base (c ∷ t)

-- what digits say behind digits that say n
abbrev pub value : ℕ → ℕ → Text → ℕ
value base n [] = n
value base n (b ∷ t) = value base (n * base + digit b) t

-- a number of at most so much
abbrev pub based : (base most : ℕ) → Text → Option ℕ
based base most t = cond (digits base t && leb (value base 0 t) most) (some (value base 0 t)) none

-- decimal digits, or 0x and hexadecimal digits; at most 65,535
unfoldable pub number : Text → Option ℕ
number [] = none
number (a ∷ []) = based 10 65535 (a ∷ [])
number (a ∷ b ∷ t) = cond (eqb a 48 && eqb b 120) (based 16 65535 t) (based 10 65535 (a ∷ b ∷ t))
