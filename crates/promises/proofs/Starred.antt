-- The examples of document 01, starred ones and their neighbours, and our own of datagrams, in one table under one proof that is computed: each line is
-- a call, and what the definition that the call's contract cites answers, with the lent table or output as it is left.
use Prim.Native.Nat.{ℕ, ◌-◌, ◌/◌}
use mathlib.Core.Path.{◌≡◌, refl}
use mathlib.Core.Bool.{Bool, true, false}
use mathlib.Core.List.{List, [], ◌∷◌, ◌++◌, map}
use lib.ListN.{length, replicate}
use Rattle.layout.specs.Multiple.{pad}
use Rattle.layout.specs.Walk.{walk, go}
use Rattle.packet.specs.declared.Counter.{Counter}
use Rattle.packet.specs.Counter.{fresh, valid, gap, next, later, advance}
use Rattle.packet.specs.Row.{row, table, behind}
use Rattle.packet.specs.Packets.{packets, mismatched, first}
use Rattle.packet.specs.Reading.{Reading, Reading as Reads}
use Rattle.packet.specs.Writing.{Writing, Writing as Writes}
use Rattle.packet.specs.Answer.{Answer, bounded, settled, weighed}
use Rattle.usb.specs.declared.Setting as UsbSetting
use Rattle.usb.specs.Setting as U
use Rattle.usb.specs.Reading as UsbReading
use Rattle.usb.specs.Writing as UsbWriting
use Rattle.flexray.specs.declared.Setting as FlexRaySetting
use Rattle.flexray.specs.Setting as F
use Rattle.flexray.specs.Reading as FlexRayReading
use Rattle.flexray.specs.Row as FlexRayRow
use Rattle.flexray.specs.Writing as FlexRayWriting
use Rattle.udp.specs.declared.Setting as UdpSetting
use Rattle.udp.specs.Setting as D
use Rattle.udp.specs.Reading as UdpReading
use Rattle.udp.specs.Writing as UdpWriting

-- header, packing, A, M, X, direction
abbrev pub usb : ℕ → ℕ → ℕ → ℕ → ℕ → ℕ → UsbSetting.Setting
usb h p a m x d = record { header = h; packing = p; align = a; datapacket = m; longest = x; direction = d }

-- node, direction, F, header, A
abbrev pub flexray : ℕ → ℕ → ℕ → ℕ → ℕ → FlexRaySetting.Setting
flexray n d f h a = record { node = n; direction = d; ceiling = f; header = h; align = a }

-- X, direction
abbrev pub udp : ℕ → ℕ → UdpSetting.Setting
udp x d = record { longest = x; direction = d }

-- U1 in the packing given, U2, and R
abbrev pub U1 : ℕ → UsbSetting.Setting
U1 p = record { header = 1; packing = p; align = 4; datapacket = 16; longest = 64; direction = 0 }

abbrev pub U2 : UsbSetting.Setting
U2 = record { header = 5; packing = 2; align = 1; datapacket = 8; longest = 100; direction = 0 }

abbrev pub R : FlexRaySetting.Setting
R = record { node = 7; direction = 0; ceiling = 32; header = 5; align = 2 }

-- header 0, node 7
abbrev pub R0 : FlexRaySetting.Setting
R0 = record { node = 7; direction = 0; ceiling = 32; header = 0; align = 1 }

abbrev pub expecting : ℕ → Counter
expecting n = record { known = 1; expected = n }

-- a lent table or output: n numbers that are 9
abbrev pub spare : ℕ → List ℕ
spare n = replicate n 9

pub data Result : Type 0 where
  read : Answer Reading → Result
  wrote : Answer Writing → Result

-- what a call answers: the count and state, or bytes and counter, and the numbers now at the front of what was lent, before `left` others
abbrev pub rows : ℕ → Counter → List ℕ → ℕ → Result
rows k c ns left = read (record { answer = Reads.Rows k c; lent = ns ++ spare left })

abbrev pub unread : ℕ → ℕ → ℕ → Result
unread n p left = read (record { answer = Reads.Refused n p; lent = spare left })

abbrev pub bytes : ℕ → ℕ → List ℕ → ℕ → Result
bytes k c bs left = wrote (record { answer = Writes.Bytes k c; lent = bs ++ spare left })

abbrev pub unwritten : ℕ → ℕ → ℕ → Result
unwritten n p left = wrote (record { answer = Writes.Refused n p; lent = spare left })

pub record Example (A : Type 0) : Type 0 where
  pub gives : A
  pub is : A

abbrev pub example : {A : Type 0} → A → A → Example A
example r e = record { gives = r; is = e }

abbrev pub usb_reads : UsbSetting.Setting → List ℕ → Counter → Result
usb_reads s t c = read (UsbReading.read_of s t c (spare 12))

abbrev pub usb_writes : UsbSetting.Setting → (bs ns : List ℕ) → ℕ → ℕ → Bool → Result
usb_writes s bs ns c fill full = wrote (UsbWriting.write_of s bs ns c fill full (spare 16))

abbrev pub flexray_reads : FlexRaySetting.Setting → List ℕ → Counter → Result
flexray_reads s t c = read (FlexRayReading.read_of s t c (spare 12))

abbrev pub flexray_writes : FlexRaySetting.Setting → (bs ns : List ℕ) → ℕ → ℕ → Result
flexray_writes s bs ns c fill = wrote (FlexRayWriting.write_of s bs ns c fill (spare 16))

abbrev pub udp_reads : UdpSetting.Setting → List ℕ → Counter → Result
udp_reads s t c = read (UdpReading.read_of s t c (spare 12))

abbrev pub udp_writes : UdpSetting.Setting → (bs ns : List ℕ) → ℕ → Result
udp_writes s bs ns c = wrote (UdpWriting.write_of s bs ns c (spare 16))

-- both, of the same bytes: they are written with the next counter d, and read as the rows ns, which leave the state c
abbrev pub both : List ℕ → ℕ → Counter → List ℕ → Result × Result
both bs d c ns = (bytes (length bs) d bs (16 - length bs), rows (length ns / 5) c ns (12 - length ns))

abbrev pub twelve : List ℕ
twelve = 0x01 ∷ 0xFE ∷ 0xFF ∷ 0xEE ∷ 0x03 ∷ 0xFF ∷ 0x01 ∷ 0x02 ∷ 0x03 ∷ 0xEE ∷ 0xEE ∷ 0xEE ∷ []

-- [FF], [01 02 03]
abbrev pub two : List ℕ
two = 0xFF ∷ 0x01 ∷ 0x02 ∷ 0x03 ∷ []

-- two packets in a datagram, whose counter goes from 65,535 to 0
abbrev pub datagram : List ℕ
datagram = 0x01 ∷ 0x00 ∷ 0xFF ∷ 0xFF ∷ 0xFF ∷ 0x03 ∷ 0x00 ∷ 0x00 ∷ 0x00 ∷ 0x01 ∷ 0x02 ∷ 0x03 ∷ []

unfoldable pub examples : List (Example Result)
examples =
    example (usb_writes (U1 1) two (1 ∷ 3 ∷ []) 254 0xEE false) (bytes 12 0 twelve 4)
    ∷ example (usb_writes (U1 1) two (1 ∷ 3 ∷ []) 254 0xEE true) (bytes 16 0 (twelve ++ (0x00 ∷ 0xEE ∷ 0xEE ∷ 0xEE ∷ [])) 0)
    ∷ example (usb_reads (U1 1) twelve fresh) (rows 2 (expecting 0) (2 ∷ 1 ∷ 254 ∷ 0 ∷ 1 ∷ 6 ∷ 3 ∷ 255 ∷ 0 ∷ 5 ∷ []) 2)
    ∷ example (usb_reads (U1 1) twelve (expecting 250)) (rows 2 (expecting 0) (2 ∷ 1 ∷ 254 ∷ 4 ∷ 1 ∷ 6 ∷ 3 ∷ 255 ∷ 0 ∷ 5 ∷ []) 2)
    ∷ example (usb_reads (U1 1) (0x01 ∷ 0x00 ∷ 0xFF ∷ 0xEE ∷ []) (expecting 255)) (rows 1 (expecting 1) (2 ∷ 1 ∷ 0 ∷ 1 ∷ 1 ∷ []) 7)
    ∷ example (usb_reads (U1 1) (0x01 ∷ 0xFF ∷ 0xFF ∷ 0xEE ∷ []) (expecting 0)) (rows 1 (expecting 0) (2 ∷ 1 ∷ 255 ∷ 255 ∷ 1 ∷ []) 7)
    ∷ example (usb_reads (U1 1) (0x00 ∷ 0x07 ∷ 0x09 ∷ 0x09 ∷ []) fresh) (rows 0 fresh [] 12)
    ∷ example (usb_reads (U1 0) (0x00 ∷ 0x07 ∷ 0x09 ∷ 0x09 ∷ []) fresh) (unread 6 0 12)
    ∷ example (usb_reads (U1 0) [] fresh) (rows 0 fresh [] 12)
    ∷ example (usb_reads (U1 1) [] fresh) (rows 0 fresh [] 12)
    ∷ example (usb_reads (U1 2) [] fresh) (rows 0 fresh [] 12)
    ∷ example (usb_reads (U1 1) (0x01 ∷ 0x00 ∷ 0xFF ∷ []) fresh) (unread 5 0 12)
    ∷ example (usb_reads (U1 1) (0x41 ∷ 0x00 ∷ []) fresh) (unread 3 0 12)
    ∷ example (usb_reads (U1 1) (0x40 ∷ 0x00 ∷ []) fresh) (unread 5 0 12)
    ∷ example (usb_writes U2 (0x10 ∷ 0x20 ∷ []) (1 ∷ 1 ∷ []) 0 0xAA false)
    (bytes 13 0 (0x01 ∷ 0x00 ∷ 0xAA ∷ 0xAA ∷ 0x10 ∷ 0xAA ∷ 0xAA ∷ 0xAA ∷ 0x01 ∷ 0x00 ∷ 0xAA ∷ 0xAA ∷ 0x20 ∷ []) 3)
    ∷ example (usb_writes U2 (0x10 ∷ 0x11 ∷ 0x12 ∷ 0x13 ∷ 0x14 ∷ 0x20 ∷ []) (5 ∷ 1 ∷ []) 0 0xAA false)
    (bytes 14 0 (0x05 ∷ 0x00 ∷ 0xAA ∷ 0xAA ∷ 0x10 ∷ 0x11 ∷ 0x12 ∷ 0x13 ∷ 0x14 ∷ 0x01 ∷ 0x00 ∷ 0xAA ∷ 0xAA ∷ 0x20 ∷ []) 2)
    ∷ example (usb_reads U2 (0x05 ∷ 0x00 ∷ 0xAA ∷ 0xAA ∷ 0x10 ∷ 0x11 ∷ 0x12 ∷ 0x13 ∷ []) fresh) (unread 5 0 12)
    ∷ example (flexray_writes R (0xFF ∷ []) (1 ∷ []) 0 0xEE) (bytes 4 0 (0x07 ∷ 0x01 ∷ 0xFF ∷ 0x00 ∷ []) 12)
    ∷ example (flexray_writes R (0x01 ∷ 0x02 ∷ 0xFF ∷ []) (2 ∷ 1 ∷ []) 0 0xEE)
    (bytes 8 0 (0x07 ∷ 0x02 ∷ 0x01 ∷ 0x02 ∷ 0xEE ∷ 0x01 ∷ 0xFF ∷ 0x00 ∷ []) 8)
    ∷ example (flexray_reads R (0x07 ∷ 0x01 ∷ 0xFF ∷ 0xEE ∷ []) fresh) (unread 5 3 12)
    ∷ example (flexray_writes R0 (0xFF ∷ 0x00 ∷ []) (2 ∷ []) 0 0xEE) (bytes 4 0 (0x07 ∷ 0xFF ∷ 0x00 ∷ 0xEE ∷ []) 12)
    ∷ example (flexray_reads R0 (0x07 ∷ 0xFF ∷ 0x00 ∷ 0xEE ∷ []) fresh) (rows 1 fresh (1 ∷ 3 ∷ 0 ∷ 0 ∷ 1 ∷ []) 7)
    -- datagrams: two packets written and read, with 65,531 expected too; none; LEN zero; three bytes left over; LEN over X; a packet cut
    ∷ example (udp_writes (udp 64 0) two (1 ∷ 3 ∷ []) 65535) (bytes 12 1 datagram 4)
    ∷ example (udp_reads (udp 64 0) datagram fresh) (rows 2 (expecting 1) (4 ∷ 1 ∷ 65535 ∷ 0 ∷ 1 ∷ 9 ∷ 3 ∷ 0 ∷ 0 ∷ 5 ∷ []) 2)
    ∷ example (udp_reads (udp 64 0) datagram (expecting 65531)) (rows 2 (expecting 1) (4 ∷ 1 ∷ 65535 ∷ 4 ∷ 1 ∷ 9 ∷ 3 ∷ 0 ∷ 0 ∷ 5 ∷ []) 2)
    ∷ example (udp_writes (udp 64 0) [] [] 7) (bytes 0 7 [] 16)
    ∷ example (udp_reads (udp 64 0) [] fresh) (rows 0 fresh [] 12)
    ∷ example (udp_reads (udp 64 0) (0x01 ∷ 0x00 ∷ 0x07 ∷ 0x00 ∷ 0xFF ∷ 0x00 ∷ 0x00 ∷ 0x08 ∷ 0x00 ∷ []) fresh) (unread 6 5 12)
    ∷ example (udp_reads (udp 64 0) (0x01 ∷ 0x00 ∷ 0x07 ∷ 0x00 ∷ 0xFF ∷ 0x01 ∷ 0x00 ∷ 0x08 ∷ []) fresh) (unread 5 5 12)
    ∷ example (udp_reads (udp 64 0) (0x41 ∷ 0x00 ∷ 0x07 ∷ 0x00 ∷ []) fresh) (unread 3 0 12)
    ∷ example (udp_reads (udp 64 0) (0x02 ∷ 0x00 ∷ 0x07 ∷ 0x00 ∷ 0xFF ∷ []) fresh) (unread 5 0 12)
    ∷ []

pub starred : map (λ x. x.gives) examples ≡ map (λ x. x.is) examples
unfolding examples pad walk go valid gap next later advance row table behind packets mismatched first bounded settled weighed
    U.headers U.sound UsbReading.len_at UsbReading.judge UsbReading.seen UsbReading.ahead UsbReading.judged UsbReading.read_of
    UsbWriting.rest_bytes UsbWriting.permits UsbWriting.skipped UsbWriting.write UsbWriting.misfit UsbWriting.composed UsbWriting.write_of
    F.headers F.start F.moved F.sound FlexRayReading.seen FlexRayReading.ahead FlexRayReading.judged FlexRayRow.frame_table
    FlexRayRow.frame_state FlexRayReading.read_of FlexRayWriting.evening FlexRayWriting.further FlexRayWriting.frame
    FlexRayWriting.spans_behind FlexRayWriting.spans FlexRayWriting.misfit FlexRayWriting.miscounted FlexRayWriting.composed FlexRayWriting.write_of
    D.fields D.sound UdpReading.seen UdpReading.ahead UdpReading.judged UdpReading.read_of
    UdpWriting.write UdpWriting.misfit UdpWriting.composed UdpWriting.write_of
starred = refl
