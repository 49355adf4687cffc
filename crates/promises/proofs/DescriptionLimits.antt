-- The words and texts of the description file, in tables under one proof that is computed. Each line is what Ask 1 says of a word or of a text.
use Prim.Native.Nat.{ℕ}
use Prim.Native.String.{String}
use native.Mathlib.Omega.{arith}
use mathlib.Core.Path.{◌≡◌, refl}
use mathlib.Core.Option.{Option, none, some}
use mathlib.Core.List.{List, [], ◌∷◌, ◌++◌, map}
use lib.ListN.{length}
use Rattle.words.specs.Words.{ascii}
use Rattle.words.specs.Parting.{parting, pieces, piece}
use Rattle.usb.specs.Setting.{sound, headers}
use Rattle.keywords.specs.Tables.{number, header, transfer, packing, alignment}
use Rattle.description.specs.Described.{Described, Described as D}
use Rattle.description.specs.Reading.{step, reading, settings_of}
use Rattle.promises.proofs.Description.{reads}
use Rattle.promises.proofs.Starred.{usb, Example, example}

---- Words ----------------------------------------------------------------------------------------------------------------------

-- what words say as a number, a header, a transfer, a packing and an alignment
abbrev said : (List ℕ → Option ℕ) → List String → List (Option ℕ)
said kind = map (λ s. kind (ascii s))

unfoldable pub words : List (Example (List (Option ℕ)))
words =
    -- decimal digits, leading zeros allowed, at most 65,535
    example (said number ("0" ∷ "007" ∷ "65535" ∷ "65536" ∷ "0000065535" ∷ "100000000000000000000" ∷ []))
    (some 0 ∷ some 7 ∷ some 65535 ∷ none ∷ some 65535 ∷ none ∷ [])
    -- 0x, small, and at least one hexadecimal digit of either case
    ∷ example (said number ("0x0" ∷ "0xFFFF" ∷ "0xaBcD" ∷ "0x00010" ∷ "0x10000" ∷ "0x" ∷ "0X10" ∷ "0xG" ∷ []))
    (some 0 ∷ some 65535 ∷ some 43981 ∷ some 16 ∷ none ∷ none ∷ none ∷ none ∷ [])
    -- nothing, signs, hexadecimal digits without 0x, a number with something behind it, a string
    ∷ example (said number ("" ∷ "-1" ∷ "+1" ∷ "A" ∷ "10h" ∷ "1.5" ∷ "\"1\"" ∷ []))
    (none ∷ none ∷ none ∷ none ∷ none ∷ none ∷ none ∷ [])
    -- the six headers; then a seventh, two that differ by a letter, one in small letters, a string, a number
    ∷ example (said header ("HEADER_LEN_BYTE" ∷ "HEADER_LEN_CTR_BYTE" ∷ "HEADER_LEN_FILL_BYTE" ∷ []))
    (some 0 ∷ some 1 ∷ some 2 ∷ [])
    ∷ example (said header ("HEADER_LEN_WORD" ∷ "HEADER_LEN_CTR_WORD" ∷ "HEADER_LEN_FILL_WORD" ∷ []))
    (some 3 ∷ some 4 ∷ some 5 ∷ [])
    ∷ example (said header ("HEADER_LEN_DWORD" ∷ "HEADER_LEN_BYTES" ∷ "HEADER_LEN_BYT" ∷ "header_len_byte" ∷ "\"HEADER_LEN_BYTE\"" ∷ "0" ∷ []))
    (none ∷ none ∷ none ∷ none ∷ none ∷ none ∷ [])
    -- the two transfers, the three packings, the four alignments, in bytes
    ∷ example (said transfer ("BULK_TRANSFER" ∷ "INTERRUPT_TRANSFER" ∷ "ISOCHRONOUS_TRANSFER" ∷ "BULK" ∷ []))
    (some 2 ∷ some 3 ∷ none ∷ none ∷ [])
    ∷ example (said packing ("MESSAGE_PACKING_SINGLE" ∷ "MESSAGE_PACKING_MULTIPLE" ∷ "MESSAGE_PACKING_STREAMING" ∷ "MESSAGE_PACKING" ∷ []))
    (some 0 ∷ some 1 ∷ some 2 ∷ none ∷ [])
    ∷ example (said alignment ("ALIGNMENT_8_BIT" ∷ "ALIGNMENT_16_BIT" ∷ "ALIGNMENT_32_BIT" ∷ "ALIGNMENT_64_BIT" ∷ "ALIGNMENT_128_BIT" ∷ []))
    (some 1 ∷ some 2 ∷ some 4 ∷ some 8 ∷ none ∷ [])
    -- none is the beginning of a longer word
    ∷ example (said transfer ("BULK_TRANSFERS" ∷ []) ++ said packing ("MESSAGE_PACKING_SINGLES" ∷ []) ++ said alignment ("ALIGNMENT_8_BITS" ∷ []))
    (none ∷ none ∷ none ∷ [])
    ∷ []

---- Texts ----------------------------------------------------------------------------------------------------------------------

-- 46 bytes
abbrev opening : List ℕ
opening = ascii "/begin XCP_ON_USB 1 2 3 4 HEADER_LEN_CTR_BYTE "

-- the same with a word LEN
abbrev worded : List ℕ
worded = ascii "/begin XCP_ON_USB 1 2 3 4 HEADER_LEN_CTR_WORD "

-- the endpoints by their M, and the second by the words behind its alignment
abbrev cmd_of : String → List ℕ
cmd_of m = ascii "/begin OUT_EP_CMD_STIM 1 BULK_TRANSFER " ++ ascii m ++ ascii " 8 MESSAGE_PACKING_MULTIPLE ALIGNMENT_32_BIT /end OUT_EP_CMD_STIM "

abbrev res_of : String → List ℕ → List ℕ
res_of m ws =
    ascii "/begin IN_EP_RESERR_DAQ_EVSERV 2 INTERRUPT_TRANSFER " ++ ascii m ++ ascii " 24 MESSAGE_PACKING_STREAMING ALIGNMENT_8_BIT "
    ++ ws ++ ascii "/end IN_EP_RESERR_DAQ_EVSERV "

-- 107 bytes, and 131
abbrev cmd : List ℕ
cmd = cmd_of "16"

abbrev res : List ℕ
res = res_of "0x40" []

abbrev closing : List ℕ
closing = ascii "/end XCP_ON_USB"

-- a block with these words before its endpoints; with none it has 299 bytes
abbrev pub block : List ℕ → List ℕ
block ws = opening ++ ws ++ cmd ++ res ++ closing

-- its settings, with the longest packet x
abbrev pub both : ℕ → Described
both x = D.Both (usb 1 1 4 16 x 1) (usb 1 2 1 64 x 0)

-- with the longest packet 64 a text has its settings, or is refused with 9 at a place
abbrev taken : List ℕ → Example Described
taken t = example (settings_of t 64) (both 64)

abbrev wrong : List ℕ → ℕ → Example Described
wrong t p = example (settings_of t 64) (D.Refused 9 p)

unfoldable pub texts : List (Example Described)
texts =
    -- the endpoints in either order
    taken (block [])
    ∷ taken (opening ++ res ++ cmd ++ closing)
    -- tab, LF and CR part words, and so do both kinds of comment, also right behind a word; a line ends at CR, at LF and at the text's end
    ∷ taken (block (65 ∷ 9 ∷ 66 ∷ 10 ∷ 67 ∷ 13 ∷ ascii "A/* /begin // */B // /* /end" ++ (13 ∷ ascii "C// \"" ++ (10 ∷ []))))
    ∷ taken (block [] ++ ascii "// A")
    -- a string is a word, and ends the word before it
    ∷ taken (block (ascii "A\"/end\"B \"/* \" \"\" "))
    -- blocks are read over, an endpoint's name in them too; and so is what stands behind an alignment
    ∷ taken (block (ascii "/begin A /begin OUT_EP_CMD_STIM B /end OUT_EP_CMD_STIM OUT_EP_CMD_STIM /end A "))
    ∷ taken (opening ++ cmd ++ res_of "0x40" (ascii "A 1 /begin OUT_EP_CMD_STIM /end OUT_EP_CMD_STIM ") ++ closing)
    -- X 8 to 255 with a byte LEN
    ∷ example (settings_of (block []) 7) (D.Refused 1 0)
    ∷ example (settings_of (block []) 8) (both 8)
    ∷ example (settings_of (block []) 255) (both 255)
    ∷ example (settings_of (block []) 256) (D.Refused 1 0)
    -- M a multiple of 8, in both
    ∷ example (settings_of (opening ++ cmd_of "12" ++ res ++ closing) 64) (D.Refused 1 0)
    ∷ example (settings_of (opening ++ cmd ++ res_of "12" [] ++ closing) 64) (D.Refused 1 0)
    -- a word behind the block, and 9 before 1
    ∷ wrong (block [] ++ ascii " A B") 300
    ∷ example (settings_of (block [] ++ ascii " A B") 7) (D.Refused 9 300)
    -- a comment and a string that are not closed
    ∷ wrong (block [] ++ ascii " /* A") 304
    ∷ wrong (block [] ++ ascii " /*/") 303
    ∷ wrong (block [] ++ ascii " \"A") 302
    -- a second endpoint at its name, a missing one at the closing /end, and a wrong name at that name
    ∷ wrong (opening ++ cmd ++ cmd) 160
    ∷ wrong (opening ++ res ++ res) 184
    ∷ wrong (opening ++ cmd ++ closing) 153
    ∷ wrong (opening ++ res ++ closing) 177
    ∷ wrong (opening ++ closing) 46
    ∷ wrong (opening ++ ascii "/begin A /end B") 60
    ∷ wrong (opening ++ ascii "/begin A /begin B /end A") 69
    ∷ wrong (opening ++ ascii "/begin /end A") 53
    ∷ wrong (opening ++ cmd ++ res ++ ascii "/end XCP_ON_USB_2") 289
    -- texts that stop early: empty, before a number, before the block's name; and in a name, which is then another word
    ∷ wrong [] 0
    ∷ wrong (ascii "/begin XCP_ON_USB 1 2") 21
    ∷ wrong (opening ++ cmd ++ res ++ ascii "/end") 288
    ∷ wrong (ascii "/begin XCP_ON_US") 7
    -- 65,536, a keyword in quotes, and a number for a header
    ∷ wrong (ascii "/begin XCP_ON_USB 1 2 3 65536 HEADER_LEN_BYTE") 24
    ∷ wrong (ascii "\"/begin\" XCP_ON_USB") 0
    ∷ wrong (ascii "/begin XCP_ON_USB 1 2 3 4 5") 26
    -- an endpoint's name without /begin is a word, and the block's name a name like any other
    ∷ taken (block (ascii "OUT_EP_CMD_STIM /begin XCP_ON_USB /end XCP_ON_USB "))
    -- inside an endpoint: a number for a transfer, an alignment for a packing, /end too early, another name behind /end
    ∷ wrong (opening ++ ascii "/begin OUT_EP_CMD_STIM 1 2") 71
    ∷ wrong (opening ++ ascii "/begin OUT_EP_CMD_STIM 1 BULK_TRANSFER 16 8 ALIGNMENT_32_BIT") 90
    ∷ wrong (opening ++ ascii "/begin OUT_EP_CMD_STIM /end") 69
    ∷ wrong (opening ++ res_of "0x40" (ascii "/end A ")) 153
    -- M is 65,536, which is no number, and 65,535, which is judged
    ∷ wrong (opening ++ cmd_of "65536" ++ res ++ closing) 85
    ∷ example (settings_of (opening ++ cmd_of "65535" ++ res ++ closing) 64) (D.Refused 1 0)
    -- texts that stop inside an endpoint, and inside a block in a block
    ∷ wrong (opening ++ ascii "/begin OUT_EP_CMD_STIM 1 BULK_TRANSFER ") 85
    ∷ wrong (opening ++ ascii "/begin A /begin B") 63
    -- X 8 to 65,535 with a word LEN
    ∷ example (settings_of (worded ++ cmd ++ res ++ closing) 65535) (D.Both (usb 4 1 4 16 65535 1) (usb 4 2 1 64 65535 0))
    ∷ example (settings_of (worded ++ cmd ++ res ++ closing) 65536) (D.Refused 1 0)
    ∷ []

pub description_limits : (map (λ x. x.gives) words ≡ map (λ x. x.is) words) × (map (λ x. x.gives) texts ≡ map (λ x. x.is) texts)
unfolding words texts settings_of reading parting pieces piece step number header transfer packing alignment sound headers
description_limits = (refl, refl)

-- 16,385 bytes are too long, whatever they are and whatever X is
pub more-text : (t : List ℕ) (x : ℕ) → length t ≡ 16385 → settings_of t x ≡ D.Refused 2 0
more-text t x e = ((reads t x refl).long 0).1 (refl, omega (arith, e))

-- and 16,384 are not
pub most-text : (t : List ℕ) (x p : ℕ) → length t ≡ 16384 → settings_of t x ≡ D.Refused 2 p → ⊥
most-text t x p e h = omega (arith, e, ((reads t x refl).long p).0 h)
