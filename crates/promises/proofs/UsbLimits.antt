-- USB as calls, in tables under one proof that is computed: every header's fields, packings, and each refusal with its place and which of two comes
-- first. Each line is what document 01 says of a call.
use Prim.Native.Nat.{ℕ, ◌≤◌, min}
use native.Mathlib.Omega.{arith}
use mathlib.Core.Path.{◌≡◌, refl}
use mathlib.Core.Bool.{true, false}
use mathlib.Core.List.{List, [], ◌∷◌, ◌++◌, map}
use lib.ListN.{length, replicate}
use borrow.Author.Tests.{le-ltb, lt-ltb}
use Rattle.layout.specs.Multiple.{pad}
use Rattle.layout.specs.Walk.{walk, go, Out.list}
use Rattle.packet.specs.declared.Counter.{Counter}
use Rattle.packet.specs.Reading.{Reading as Reads}
use Rattle.packet.specs.Seen.{Seen as Seen}
use Rattle.packet.specs.Writing.{Writing as Writes}
use Rattle.packet.specs.Counter.{fresh, valid, gap, next, later, advance}
use Rattle.packet.specs.Row.{row, table, behind}
use Rattle.packet.specs.Packets.{packets, mismatched, first}
use Rattle.packet.specs.Answer.{bounded, settled, weighed, stored}
use Rattle.packet.specs.Limit.{most_bytes as byte_limit}
use Rattle.usb.specs.declared.Setting as UsbSetting
use Rattle.usb.specs.Setting as U
use Rattle.usb.specs.Reading as UsbReading
use Rattle.usb.specs.Writing as UsbWriting
use Rattle.promises.proofs.Starred.{U1, U2, expecting, spare, twelve, two, Result, Result.read, Result.wrote, rows, unread, bytes, unwritten, both}
use Rattle.promises.proofs.Starred.{Example, example, usb, usb_reads, usb_writes}

-- Packets bs of the lengths ns are written with the counter c and the fill byte EE as the bytes t, with the next counter d; t is read with the
-- state e as the rows rs, which leave the state f
abbrev usb_both : UsbSetting.Setting → (bs ns : List ℕ) (c : ℕ) (t : List ℕ) (d : ℕ) (e f : Counter) (rs : List ℕ)
    → Example (Result × Result)
usb_both s bs ns c t d e f rs = example (usb_writes s bs ns c 0xEE false, usb_reads s t e) (both t d f rs)

-- multiple, M 16, X 64, by the header and A
abbrev plain : ℕ → ℕ → UsbSetting.Setting
plain h a = usb h 1 a 16 64 0

-- U1 with data packets of 8 bytes, by the packing
abbrev small : ℕ → UsbSetting.Setting
small p = usb 1 p 4 8 64 0

-- a state that is known, with another mark than a reader leaves
abbrev marked : ℕ → Counter
marked n = record { known = 7; expected = n }

-- data packets of 8 bytes: [FF] alone with its counter, [01 02 03] with the next, and the first of a message that has 12
abbrev one : List ℕ
one = 0x01 ∷ 0xFE ∷ 0xFF ∷ 0xEE ∷ 0xEE ∷ 0xEE ∷ 0xEE ∷ 0xEE ∷ []

abbrev three : List ℕ
three = 0x03 ∷ 0xFF ∷ 0x01 ∷ 0x02 ∷ 0x03 ∷ 0xEE ∷ 0xEE ∷ 0xEE ∷ []

abbrev apart : List ℕ
apart = 0x07 ∷ 0x00 ∷ 0x01 ∷ 0x01 ∷ 0x01 ∷ 0x01 ∷ 0x01 ∷ 0x01 ∷ []

unfoldable pub transfers : List (Example (Result × Result))
transfers =
    -- LEN byte; LEN, FILL bytes; LEN word. Without CTR the state is neither read nor altered. A is 1, 1 and 2
    usb_both (plain 0 1) (0xFF ∷ 0x01 ∷ 0x02 ∷ []) (1 ∷ 2 ∷ []) 300
    (0x01 ∷ 0xFF ∷ 0x02 ∷ 0x01 ∷ 0x02 ∷ []) 300
    (expecting 300) (expecting 300) (1 ∷ 1 ∷ 0 ∷ 0 ∷ 1 ∷ 3 ∷ 2 ∷ 0 ∷ 0 ∷ 5 ∷ [])
    ∷ usb_both (plain 2 1) (0xFF ∷ 0x01 ∷ 0x02 ∷ []) (1 ∷ 2 ∷ []) 300
    (0x01 ∷ 0xEE ∷ 0xFF ∷ 0x02 ∷ 0xEE ∷ 0x01 ∷ 0x02 ∷ []) 300
    fresh fresh (2 ∷ 1 ∷ 0 ∷ 0 ∷ 1 ∷ 5 ∷ 2 ∷ 0 ∷ 0 ∷ 5 ∷ [])
    ∷ usb_both (plain 3 2) (0xFF ∷ 0x01 ∷ 0x02 ∷ []) (1 ∷ 2 ∷ []) 300
    (0x01 ∷ 0x00 ∷ 0xFF ∷ 0xEE ∷ 0x02 ∷ 0x00 ∷ 0x01 ∷ 0x02 ∷ []) 300
    fresh fresh (2 ∷ 1 ∷ 0 ∷ 0 ∷ 1 ∷ 6 ∷ 2 ∷ 0 ∷ 0 ∷ 5 ∷ [])
    -- LEN, CTR words, the low byte first. The counter goes from 65,535 to 0, and a gap is modulo 65,536. A is 8, and 1
    ∷ usb_both (plain 4 8) (0xFF ∷ 0x01 ∷ 0x02 ∷ []) (1 ∷ 2 ∷ []) 65535
    ((0x01 ∷ 0x00 ∷ 0xFF ∷ 0xFF ∷ 0xFF ∷ 0xEE ∷ 0xEE ∷ 0xEE ∷ [])
    ++ (0x02 ∷ 0x00 ∷ 0x00 ∷ 0x00 ∷ 0x01 ∷ 0x02 ∷ 0xEE ∷ 0xEE ∷ [])) 1
    (expecting 65533) (expecting 1) (4 ∷ 1 ∷ 65535 ∷ 2 ∷ 1 ∷ 12 ∷ 2 ∷ 0 ∷ 0 ∷ 5 ∷ [])
    ∷ usb_both (plain 4 1) (0xFE ∷ []) (1 ∷ []) 258
    (0x01 ∷ 0x00 ∷ 0x02 ∷ 0x01 ∷ 0xFE ∷ []) 259 (expecting 65534) (expecting 259) (4 ∷ 1 ∷ 258 ∷ 260 ∷ 2 ∷ [])
    ∷ usb_both (plain 4 1) (0xFE ∷ []) (1 ∷ []) 258
    (0x01 ∷ 0x00 ∷ 0x02 ∷ 0x01 ∷ 0xFE ∷ []) 259 (expecting 259) (expecting 259) (4 ∷ 1 ∷ 258 ∷ 65535 ∷ 2 ∷ [])
    ∷ usb_both (plain 4 1) (0xFE ∷ []) (1 ∷ []) 258
    (0x01 ∷ 0x00 ∷ 0x02 ∷ 0x01 ∷ 0xFE ∷ []) 259 fresh (expecting 259) (4 ∷ 1 ∷ 258 ∷ 0 ∷ 2 ∷ [])
    -- single, multiple and streaming, with data packets of 8 bytes; streaming, a packet that runs on, and a rest shorter than H
    ∷ usb_both (small 0) two (1 ∷ 3 ∷ []) 254
    (one ++ three) 0 fresh (expecting 0) (2 ∷ 1 ∷ 254 ∷ 0 ∷ 1 ∷ 10 ∷ 3 ∷ 255 ∷ 0 ∷ 5 ∷ [])
    ∷ usb_both (small 1) two (1 ∷ 3 ∷ []) 254
    ((0x01 ∷ 0xFE ∷ 0xFF ∷ 0xEE ∷ 0x00 ∷ 0xEE ∷ 0xEE ∷ 0xEE ∷ []) ++ three) 0
    fresh (expecting 0) (2 ∷ 1 ∷ 254 ∷ 0 ∷ 1 ∷ 10 ∷ 3 ∷ 255 ∷ 0 ∷ 5 ∷ [])
    ∷ usb_both (small 2) two (1 ∷ 3 ∷ []) 254
    twelve 0 fresh (expecting 0) (2 ∷ 1 ∷ 254 ∷ 0 ∷ 1 ∷ 6 ∷ 3 ∷ 255 ∷ 0 ∷ 5 ∷ [])
    ∷ usb_both U2 (0x10 ∷ 0x11 ∷ 0x12 ∷ 0x13 ∷ 0x14 ∷ 0x20 ∷ []) (5 ∷ 1 ∷ []) 0
    ((0x05 ∷ 0x00 ∷ 0xEE ∷ 0xEE ∷ 0x10 ∷ 0x11 ∷ 0x12 ∷ 0x13 ∷ []) ++ (0x14 ∷ 0x01 ∷ 0x00 ∷ 0xEE ∷ 0xEE ∷ 0x20 ∷ [])) 0
    fresh fresh (4 ∷ 5 ∷ 0 ∷ 0 ∷ 5 ∷ 13 ∷ 1 ∷ 0 ∷ 0 ∷ 5 ∷ [])
    ∷ usb_both U2 (0x10 ∷ 0x20 ∷ []) (1 ∷ 1 ∷ []) 0
    ((0x01 ∷ 0x00 ∷ 0xEE ∷ 0xEE ∷ 0x10 ∷ 0xEE ∷ 0xEE ∷ 0xEE ∷ []) ++ (0x01 ∷ 0x00 ∷ 0xEE ∷ 0xEE ∷ 0x20 ∷ [])) 0
    fresh fresh (4 ∷ 1 ∷ 0 ∷ 0 ∷ 5 ∷ 12 ∷ 1 ∷ 0 ∷ 0 ∷ 5 ∷ [])
    -- multiple, with a rest shorter than H; single, with a last data packet that is shorter, a state whose mark is 7, and EV
    ∷ usb_both (usb 4 1 1 8 64 0) (0xFE ∷ 0x01 ∷ []) (1 ∷ 1 ∷ []) 1
    ((0x01 ∷ 0x00 ∷ 0x01 ∷ 0x00 ∷ 0xFE ∷ 0xEE ∷ 0xEE ∷ 0xEE ∷ []) ++ (0x01 ∷ 0x00 ∷ 0x02 ∷ 0x00 ∷ 0x01 ∷ [])) 3
    fresh (expecting 3) (4 ∷ 1 ∷ 1 ∷ 0 ∷ 2 ∷ 12 ∷ 1 ∷ 2 ∷ 0 ∷ 5 ∷ [])
    ∷ usb_both (small 0) (0xFD ∷ []) (1 ∷ []) 254
    (0x01 ∷ 0xFE ∷ 0xFD ∷ 0xEE ∷ []) 255 (marked 250) (expecting 255) (2 ∷ 1 ∷ 254 ∷ 4 ∷ 3 ∷ [])
    ∷ []

unfoldable pub calls : List (Example Result)
calls =
    -- free bytes may hold any value; a rest of less than H bytes alone
    example (usb_reads U2 ((0x01 ∷ 0x00 ∷ 0x07 ∷ 0x08 ∷ 0x10 ∷ 0x01 ∷ 0x02 ∷ 0x03 ∷ [])
    ++ (0x01 ∷ 0x00 ∷ 0x09 ∷ 0x0A ∷ 0x20 ∷ [])) fresh)
    (rows 2 fresh (4 ∷ 1 ∷ 0 ∷ 0 ∷ 5 ∷ 12 ∷ 1 ∷ 0 ∷ 0 ∷ 5 ∷ []) 2)
    ∷ example (usb_reads U2 (0xFF ∷ 0xFF ∷ 0xFF ∷ []) fresh) (rows 0 fresh [] 12)
    -- a rest with a zero LEN before a message, streamed; a word LEN of 256, which is X
    ∷ example (usb_reads U2 ((0x00 ∷ 0x00 ∷ 0x07 ∷ 0x07 ∷ 0x07 ∷ 0x07 ∷ 0x07 ∷ 0x07 ∷ [])
    ++ (0x01 ∷ 0x00 ∷ 0xAA ∷ 0xAA ∷ 0x20 ∷ [])) fresh)
    (rows 1 fresh (12 ∷ 1 ∷ 0 ∷ 0 ∷ 5 ∷ []) 7)
    ∷ example (usb_reads (usb 3 2 1 8 256 0) (0x00 ∷ 0x01 ∷ replicate 256 5) fresh) (rows 1 fresh (2 ∷ 256 ∷ 0 ∷ 0 ∷ 5 ∷ []) 7)
    -- without CTR the state is left as it was given, whatever its mark
    ∷ example (usb_reads (plain 0 1) (0x01 ∷ 0xFF ∷ []) (marked 300)) (rows 1 (marked 300) (1 ∷ 1 ∷ 0 ∷ 0 ∷ 1 ∷ []) 7)
    -- from the master
    ∷ example (usb_reads (usb 1 1 4 16 64 1) twelve fresh)
    (rows 2 (expecting 0) (2 ∷ 1 ∷ 254 ∷ 0 ∷ 6 ∷ 6 ∷ 3 ∷ 255 ∷ 0 ∷ 7 ∷ []) 2)
    -- a fresh state is not read; a zero LEN carries no counter
    ∷ example (usb_reads (small 1) (0x01 ∷ 0x05 ∷ 0xFF ∷ 0xEE ∷ 0x00 ∷ 0x07 ∷ 0x09 ∷ 0x09 ∷ []) (record { known = 0; expected = 300 }))
    (rows 1 (expecting 6) (2 ∷ 1 ∷ 5 ∷ 0 ∷ 1 ∷ []) 7)
    ∷ example (usb_reads (small 1) ((0x00 ∷ 0x07 ∷ 0x09 ∷ 0x09 ∷ 0x09 ∷ 0x09 ∷ 0x09 ∷ 0x09 ∷ [])
    ++ (0x01 ∷ 0x08 ∷ 0xFF ∷ 0xEE ∷ [])) (expecting 8))
    (rows 1 (expecting 9) (10 ∷ 1 ∷ 8 ∷ 0 ∷ 1 ∷ []) 7)
    -- filled up: single; a rest shorter than H, and one of H or more; nothing behind a full data packet, or for an empty list
    ∷ example (usb_writes (small 0) (0xFF ∷ []) (1 ∷ []) 254 0xEE true) (bytes 8 255 one 8)
    ∷ example (usb_writes U2 (0x10 ∷ []) (1 ∷ []) 0 0xAA true)
    (bytes 8 0 (0x01 ∷ 0x00 ∷ 0xAA ∷ 0xAA ∷ 0x10 ∷ 0xAA ∷ 0xAA ∷ 0xAA ∷ []) 8)
    ∷ example (usb_writes U2 (0x10 ∷ 0x11 ∷ 0x12 ∷ 0x13 ∷ 0x14 ∷ []) (5 ∷ []) 0 0xAA true)
    (bytes 16 0 ((0x05 ∷ 0x00 ∷ 0xAA ∷ 0xAA ∷ 0x10 ∷ 0x11 ∷ 0x12 ∷ 0x13 ∷ [])
    ++ (0x14 ∷ 0x00 ∷ 0x00 ∷ 0xAA ∷ 0xAA ∷ 0xAA ∷ 0xAA ∷ 0xAA ∷ [])) 0)
    ∷ example (usb_writes U2 (0x10 ∷ 0x11 ∷ 0x12 ∷ 0x13 ∷ []) (4 ∷ []) 0 0xAA true)
    (bytes 8 0 (0x04 ∷ 0x00 ∷ 0xAA ∷ 0xAA ∷ 0x10 ∷ 0x11 ∷ 0x12 ∷ 0x13 ∷ []) 8)
    ∷ example (usb_writes (small 1) [] [] 254 0xEE true) (bytes 0 254 [] 16)
    -- the reader refuses: 1, 2, then the leftmost of 3, 5, 6 (3 before 5 at one header), then 4
    ∷ example (usb_reads (usb 1 1 3 16 64 0) (0x41 ∷ 0x00 ∷ []) fresh) (unread 1 0 12)
    ∷ example (usb_reads (U1 1) (0x41 ∷ 0x00 ∷ []) (expecting 256)) (unread 1 0 12)
    ∷ example (usb_reads (usb 3 2 1 8 256 0) (0x01 ∷ 0x01 ∷ []) fresh) (unread 3 0 12)
    ∷ example (usb_reads (usb 3 2 1 8 256 0) (0x00 ∷ 0x01 ∷ []) fresh) (unread 5 0 12)
    ∷ example (usb_reads (U1 1) (0x01 ∷ 0xFE ∷ 0xFF ∷ 0xEE ∷ 0x41 ∷ 0x00 ∷ []) fresh) (unread 3 4 12)
    ∷ example (usb_reads (U1 1) (0x01 ∷ 0xFE ∷ 0xFF ∷ 0xEE ∷ 0x01 ∷ 0x00 ∷ 0xFF ∷ []) fresh) (unread 5 4 12)
    ∷ example (usb_reads (small 0) (apart ++ (0x41 ∷ 0x00 ∷ 0x00 ∷ 0x00 ∷ [])) fresh) (unread 5 0 12)
    ∷ example (usb_reads (small 1) (apart ++ (0x41 ∷ 0x00 ∷ 0x00 ∷ 0x00 ∷ [])) fresh) (unread 5 0 12)
    ∷ example (usb_reads (small 2) (apart ++ (0x01 ∷ 0xEE ∷ 0xEE ∷ 0xEE ∷ 0x41 ∷ 0x00 ∷ [])) fresh) (unread 3 12 12)
    ∷ example (usb_reads (small 0) (one ++ (0x01 ∷ [])) fresh) (unread 6 8 12)
    ∷ example (usb_reads (small 0) (one ++ (0x00 ∷ 0x00 ∷ 0x41 ∷ 0x00 ∷ [])) fresh) (unread 6 8 12)
    ∷ example (usb_reads (small 0) ((0x41 ∷ 0x00 ∷ 0xFF ∷ 0xEE ∷ 0xEE ∷ 0xEE ∷ 0xEE ∷ 0xEE ∷ []) ++ (0x00 ∷ 0x00 ∷ [])) fresh)
    (unread 3 0 12)
    ∷ example (usb_reads (small 0) ((0x00 ∷ 0x00 ∷ 0xEE ∷ 0xEE ∷ 0xEE ∷ 0xEE ∷ 0xEE ∷ 0xEE ∷ []) ++ (0x41 ∷ 0x00 ∷ [])) fresh)
    (unread 6 0 12)
    ∷ example (usb_reads (small 0) (apart ++ (0x00 ∷ 0x00 ∷ [])) fresh) (unread 5 0 12)
    -- a tail that is cut, single and streaming
    ∷ example (usb_reads (small 0) (0x01 ∷ 0x00 ∷ 0xFF ∷ []) fresh) (unread 5 0 12)
    ∷ example (usb_reads (small 2) (0x01 ∷ 0x00 ∷ 0xFF ∷ []) fresh) (unread 5 0 12)
    ∷ example (read (UsbReading.read_of (U1 1) twelve fresh (spare 9))) (unread 4 0 9)
    ∷ example (read (UsbReading.read_of (U1 1) twelve fresh (spare 10)))
    (rows 2 (expecting 0) (2 ∷ 1 ∷ 254 ∷ 0 ∷ 1 ∷ 6 ∷ 3 ∷ 255 ∷ 0 ∷ 5 ∷ []) 0)
    ∷ example (read (UsbReading.read_of (U1 1) (twelve ++ (0x41 ∷ 0x00 ∷ [])) fresh [])) (unread 3 12 0)
    ∷ example (read (UsbReading.read_of (U1 1) (twelve ++ (0x01 ∷ 0x00 ∷ 0xFF ∷ [])) fresh [])) (unread 5 12 0)
    ∷ example (read (UsbReading.read_of (small 0) (one ++ (0x00 ∷ 0x00 ∷ [])) fresh [])) (unread 6 8 0)
    -- the writer: 1, 2, then 3 at its least index, then 4
    ∷ example (usb_writes (usb 1 1 3 16 64 0) (0xFF ∷ []) (2 ∷ []) 0 0xEE false) (unwritten 1 0 16)
    ∷ example (usb_writes (U1 1) (0xFF ∷ []) (2 ∷ []) 256 0xEE false) (unwritten 1 0 16)
    ∷ example (usb_writes (U1 1) (0xFF ∷ []) (0 ∷ []) 0 0xEE false) (unwritten 2 0 16)
    ∷ example (usb_writes (U1 1) (0xFF ∷ []) (2 ∷ []) 0 0xEE false) (unwritten 2 0 16)
    ∷ example (usb_writes (U1 1) [] (replicate 4097 0) 0 0xEE false) (unwritten 2 0 16)
    ∷ example (usb_writes (U1 1) [] (replicate 4096 0) 0 0xEE false) (unwritten 3 0 16)
    ∷ example (usb_writes (U1 1) (0xFF ∷ []) (1 ∷ 0 ∷ 0 ∷ []) 0 0xEE false) (unwritten 3 1 16)
    ∷ example (usb_writes (usb 0 2 1 8 8 0) (replicate 9 5) (8 ∷ 1 ∷ []) 0 0xEE false) (bytes 11 0 ((8 ∷ replicate 8 5) ++ (1 ∷ 5 ∷ [])) 5)
    ∷ example (usb_writes (usb 0 2 1 8 8 0) (replicate 10 5) (1 ∷ 9 ∷ []) 0 0xEE false) (unwritten 3 1 16)
    ∷ example (usb_writes (small 0) (replicate 6 5) (6 ∷ []) 0 0xEE false) (bytes 8 1 (6 ∷ 0 ∷ replicate 6 5) 8)
    ∷ example (usb_writes (small 0) (replicate 7 5) (7 ∷ []) 0 0xEE false) (unwritten 3 0 16)
    ∷ example (usb_writes (small 1) (replicate 7 5) (7 ∷ []) 0 0xEE false) (unwritten 3 0 16)
    ∷ example (usb_writes (small 2) (replicate 7 5) (7 ∷ []) 0 0xEE false) (bytes 12 1 ((7 ∷ 0 ∷ replicate 7 5) ++ (0xEE ∷ 0xEE ∷ 0xEE ∷ [])) 4)
    ∷ example (wrote (UsbWriting.write_of (U1 1) two (1 ∷ 3 ∷ []) 254 0xEE false (spare 11))) (unwritten 4 0 11)
    ∷ example (wrote (UsbWriting.write_of (U1 1) two (1 ∷ 3 ∷ []) 254 0xEE false (spare 12))) (bytes 12 0 twelve 0)
    ∷ example (wrote (UsbWriting.write_of (U1 1) two (1 ∷ 3 ∷ []) 254 0xEE true (spare 15))) (unwritten 4 0 15)
    ∷ example (wrote (UsbWriting.write_of (U1 1) (0xFF ∷ []) (2 ∷ []) 256 0xEE false [])) (unwritten 1 0 0)
    ∷ example (wrote (UsbWriting.write_of (U1 1) (0xFF ∷ []) (2 ∷ []) 0 0xEE false [])) (unwritten 2 0 0)
    ∷ example (wrote (UsbWriting.write_of (U1 1) [] (0 ∷ []) 254 0xEE false [])) (unwritten 3 0 0)
    ∷ []

pub usb_limits : (map (λ x. x.gives) transfers ≡ map (λ x. x.is) transfers) × (map (λ x. x.gives) calls ≡ map (λ x. x.is) calls)
unfolding transfers calls pad walk go valid gap next later advance row table behind packets mismatched first bounded settled weighed
    U.headers U.sound UsbReading.len_at UsbReading.judge UsbReading.seen UsbReading.ahead UsbReading.judged UsbReading.read_of
    UsbWriting.rest_bytes UsbWriting.permits UsbWriting.skipped UsbWriting.write UsbWriting.misfit UsbWriting.composed UsbWriting.write_of
usb_limits = (refl, refl)

-- in 262,144 bytes that start with a zero LEN, the first place is refused with 6
zero_first : (bs : List ℕ) → length bs ≡ 262143 → UsbReading.seen (U1 0) (0x00 ∷ bs) 0 ≡ Seen.Refused 6 0
unfolding U.headers UsbReading.len_at UsbReading.judge UsbReading.seen
zero_first bs e = rw e refl

-- a single transfer of 262,144 bytes is not too long: one that starts with a zero LEN is refused with 6
pub most_bytes : (bs : List ℕ) → length bs ≡ 262143 → (UsbReading.read_of (U1 0) (0x00 ∷ bs) fresh []).answer ≡ Reads.Refused 6 0
unfolding walk go valid bounded settled U.headers U.sound UsbReading.ahead UsbReading.judged UsbReading.read_of
most_bytes bs e = rw (le-ltb 262144 (length (0x00 ∷ bs)) (omega (arith, e)), zero_first bs e) refl

-- 262,145 bytes are too long, whatever they are; and 1 comes before
pub more_bytes : (bs : List ℕ) → length bs ≡ 262145 → ((UsbReading.read_of (U1 0) bs fresh []).answer ≡ Reads.Refused 2 0)
    × ((UsbReading.read_of (usb 1 0 3 16 64 0) bs fresh []).answer ≡ Reads.Refused 1 0)
unfolding valid bounded settled U.headers U.sound UsbReading.judged UsbReading.read_of
more_bytes bs e = (rw e refl, refl)

-- where a writer has room for them, 262,144 bytes that it has composed are written, and 262,145 are not
pub most_written : (bs out : List ℕ) → 262145 ≤ length out
    → (length bs ≡ 262144 → (stored byte_limit 0 out (list bs)).answer ≡ Writes.Bytes 262144 0)
    × (length bs ≡ 262145 → (stored byte_limit 0 out (list bs)).answer ≡ Writes.Refused 4 0)
unfolding settled
most_written bs out room = (
  λ e. rw (le-ltb (min (length out) 262144) (length bs) (omega arith), e) refl,
  λ e. rw (lt-ltb (min (length out) 262144) (length bs) (omega arith)) refl,
)
