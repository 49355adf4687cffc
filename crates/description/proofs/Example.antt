-- The example of document 000, chapter 4.2, with both settings; and some texts that are refused, each at its place.
use Prim.Native.Nat.{ℕ}
use Prim.Native.String.{String}
use mathlib.Core.Path.{◌≡◌, refl}
use mathlib.Core.List.{List, [], ◌∷◌, ◌++◌}
use Rattle.words.specs.Words.{ascii}
use Rattle.words.specs.Parting.{parting, pieces, piece}
use Rattle.usb.specs.Setting.{sound, headers}
use Rattle.description.specs.Described.{Described as D}
use Rattle.keywords.specs.Tables.{number, header, transfer, packing, alignment}
use Rattle.description.specs.Reading.{step, reading, settings_of}

-- the text stops early
cut : settings_of (ascii "/begin XCP_ON_USB 1 2") 64 ≡ D.Refused 9 21
unfolding settings_of reading parting pieces piece step number header transfer packing alignment
cut = refl

-- 65,536
beyond : settings_of (ascii "/begin XCP_ON_USB 1 2 65535 0x10000 HEADER_LEN_WORD") 64 ≡ D.Refused 9 28
unfolding settings_of reading parting pieces piece step number header transfer packing alignment
beyond = refl

-- `/*/` does not close a comment
unclosed : settings_of (ascii "/begin/*/ XCP_ON_USB") 64 ≡ D.Refused 9 20
unfolding settings_of reading parting pieces piece step number header transfer packing alignment
unclosed = refl

-- no endpoint: at the closing /end
missing : settings_of (ascii "/begin XCP_ON_USB 1 2 3 4 HEADER_LEN_WORD A /end XCP_ON_USB") 64 ≡ D.Refused 9 44
unfolding settings_of reading parting pieces piece step number header transfer packing alignment
missing = refl

-- a name that only begins right
longer : settings_of (ascii "/begin XCP_ON_USB_2") 64 ≡ D.Refused 9 7
unfolding settings_of reading parting pieces piece step number header transfer packing alignment
longer = refl

-- a string is no keyword
quoted : settings_of (ascii "\"/begin\" XCP_ON_USB") 64 ≡ D.Refused 9 0
unfolding settings_of reading parting pieces piece step number header transfer packing alignment
quoted = refl

-- lines, each with its end
abbrev lined : List String → List ℕ
lined [] = []
lined (l ∷ ls) = ascii l ++ (10 ∷ lined ls)

-- the example of chapter 4.2
pub block : List ℕ
block =
    lined
    ("/begin XCP_ON_USB"
    ∷ "  0x0100 /* XCP on USB version */  0x108C /* Vendor ID */  0x0EDC /* Product ID */  0x02 // Number of interface"
    ∷ "  HEADER_LEN_FILL_WORD"
    ∷ "  /begin OUT_EP_CMD_STIM"
    ∷ "    0x01 /* Endpoint number is 1 (dir=OUT) */"
    ∷ "    BULK_TRANSFER"
    ∷ "    0x40 /* Maximum packet size is 64 bytes */"
    ∷ "    0    /* Polling interval don't care */"
    ∷ "    MESSAGE_PACKING_SINGLE"
    ∷ "    ALIGNMENT_32_BIT"
    ∷ "  /end OUT_EP_CMD_STIM"
    ∷ "  /begin IN_EP_RESERR_DAQ_EVSERV"
    ∷ "    0x01 BULK_TRANSFER 0x40 0 MESSAGE_PACKING_SINGLE ALIGNMENT_32_BIT"
    ∷ "    RECOMMENDED_HOST_BUFSIZE 1"
    ∷ "  /end IN_EP_RESERR_DAQ_EVSERV"
    ∷ "  ALTERNATE_SETTING_NO 0x01"
    ∷ "  INTERFACE_STRING_DESCRIPTOR \"XCP Master ECU on interface 1\""
    ∷ "  /begin OUT_EP_ONLY_STIM"
    ∷ "    0x02 BULK_TRANSFER 0x40 0 MESSAGE_PACKING_MULTIPLE ALIGNMENT_32_BIT"
    ∷ "  /end OUT_EP_ONLY_STIM"
    ∷ "  /begin IN_EP_ONLY_DAQ"
    ∷ "    0x02 BULK_TRANSFER 0x40 0 MESSAGE_PACKING_STREAMING ALIGNMENT_32_BIT RECOMMENDED_HOST_BUFSIZE 5"
    ∷ "  /end IN_EP_ONLY_DAQ"
    ∷ "  /begin IN_EP_ONLY_EVSERV"
    ∷ "    0x03 INTERRUPT_TRANSFER 0x40 0x10 MESSAGE_PACKING_SINGLE ALIGNMENT_32_BIT RECOMMENDED_HOST_BUFSIZE 1"
    ∷ "  /end IN_EP_ONLY_EVSERV"
    ∷ "  /begin DAQ_LIST_USB_ENDPOINT 0x0000 FIXED_IN 0x02 /end DAQ_LIST_USB_ENDPOINT"
    ∷ "  /begin DAQ_LIST_USB_ENDPOINT 0x0001 FIXED_IN 0x02 /end DAQ_LIST_USB_ENDPOINT"
    ∷ "  /begin DAQ_LIST_USB_ENDPOINT 0x0002 FIXED_OUT 0x02 /end DAQ_LIST_USB_ENDPOINT"
    ∷ "/end XCP_ON_USB"
    ∷ [])

pub described : settings_of block 56
    ≡ D.Both (record { header = 5; packing = 0; align = 4; datapacket = 64; longest = 56; direction = 1 })
    (record { header = 5; packing = 0; align = 4; datapacket = 64; longest = 56; direction = 0 })
unfolding block settings_of reading parting pieces piece step number header transfer packing alignment sound headers
described = refl
