-- The bounds of document 01 and of Ask 3, at the bound and one past it, in two tables under one proof that is computed. UsbLimits, FlexrayLimits and
-- UdpLimits have the calls.
use Prim.Native.Nat.{ℕ}
use mathlib.Core.Path.{◌≡◌, refl}
use mathlib.Core.Bool.{false}
use mathlib.Core.List.{List, [], ◌∷◌, map}
use Rattle.layout.specs.Field.{size, place, width, Name.LEN, Name.CTR}
use Rattle.layout.specs.Walk.{walk, go}
use Rattle.packet.specs.Reading.{Reading, Reading as Reads}
use Rattle.packet.specs.Writing.{Writing, Writing as Writes}
use Rattle.packet.specs.Limit.{most_bytes, most_lengths}
use Rattle.packet.specs.Kind.{kind_of}
use Rattle.packet.specs.Part.{part_of, check_of, check_number, check_place}
use Rattle.packet.specs.Counter.{valid, later}
use Rattle.packet.specs.Row.{table, behind}
use Rattle.packet.specs.Packets.{packets, mismatched, first}
use Rattle.packet.specs.Answer.{settled, weighed}
use Rattle.packet.specs.Answer.{bounded as in_bounds}
use Rattle.usb.specs.declared.Setting as UsbSetting
use Rattle.usb.specs.Setting as U
use Rattle.usb.specs.Reading as UsbReading
use Rattle.usb.specs.Writing as UsbWriting
use Rattle.flexray.specs.declared.Setting as FlexRaySetting
use Rattle.flexray.specs.Setting as F
use Rattle.flexray.specs.Reading as FlexRayReading
use Rattle.flexray.specs.Writing as FlexRayWriting
use Rattle.udp.specs.declared.Setting as UdpSetting
use Rattle.udp.specs.Setting as D
use Rattle.udp.specs.Reading as UdpReading
use Rattle.udp.specs.Writing as UdpWriting
use Rattle.promises.proofs.Starred.{R, R0, expecting, Example, example, usb, flexray, udp}

---- Settings and counters ------------------------------------------------------------------------------------------------------

-- what reader and writer answer to nothing, with the counter n expected and first
abbrev usb_tries : UsbSetting.Setting → ℕ → Reading × Writing
usb_tries s n = ((UsbReading.read_of s [] (expecting n) []).answer, (UsbWriting.write_of s [] [] n 0 false []).answer)

abbrev flexray_tries : FlexRaySetting.Setting → ℕ → Reading × Writing
flexray_tries s n = ((FlexRayReading.read_of s [] (expecting n) []).answer, (FlexRayWriting.write_of s [] [] n 0 []).answer)

abbrev udp_tries : UdpSetting.Setting → ℕ → Reading × Writing
udp_tries s n = ((UdpReading.read_of s [] (expecting n) []).answer, (UdpWriting.write_of s [] [] n []).answer)

-- 1 at 0; no rows and no bytes; or, on FlexRay, what comes behind 1: a frame shorter than H + 1, and an empty list
abbrev broken : Reading × Writing
broken = (Reads.Refused 1 0, Writes.Refused 1 0)

abbrev taken : ℕ → Reading × Writing
taken n = (Reads.Rows 0 (expecting n), Writes.Bytes 0 n)

abbrev sound : Reading × Writing
sound = taken 0

abbrev framed : Reading × Writing
framed = (Reads.Refused 6 0, Writes.Refused 2 0)

-- X, by the header
abbrev longest : ℕ → List (Reading × Writing)
longest h = map (λ x. usb_tries (usb h 1 4 16 x 0) 0) (7 ∷ 8 ∷ 255 ∷ 256 ∷ 65535 ∷ 65536 ∷ [])

-- A, by the header
abbrev aligned : ℕ → List (Reading × Writing)
aligned h = map (λ a. flexray_tries (flexray 7 0 32 h a) 0) (0 ∷ 1 ∷ 2 ∷ 3 ∷ 4 ∷ 8 ∷ [])

-- a counter, by the header
abbrev counted : ℕ → List ℕ → List (Reading × Writing)
counted h = map (usb_tries (usb h 1 4 16 64 0))

unfoldable pub bounds : List (Example (List (Reading × Writing)))
bounds =
    -- USB: header type 0 to 5; packing 0, 1, 2; direction 0, 1; A 1, 2, 4 or 8; M a multiple of 8, 8 to 1,024
    example (map (λ h. usb_tries (usb h 1 4 16 64 0) 0) (0 ∷ 1 ∷ 2 ∷ 3 ∷ 4 ∷ 5 ∷ 6 ∷ []))
    (sound ∷ sound ∷ sound ∷ sound ∷ sound ∷ sound ∷ broken ∷ [])
    ∷ example (map (λ p. usb_tries (usb 1 p 4 16 64 0) 0) (0 ∷ 1 ∷ 2 ∷ 3 ∷ [])) (sound ∷ sound ∷ sound ∷ broken ∷ [])
    ∷ example (map (λ d. usb_tries (usb 1 1 4 16 64 d) 0) (0 ∷ 1 ∷ 2 ∷ [])) (sound ∷ sound ∷ broken ∷ [])
    ∷ example (map (λ a. usb_tries (usb 1 1 a 16 64 0) 0) (0 ∷ 1 ∷ 2 ∷ 3 ∷ 4 ∷ 6 ∷ 8 ∷ 16 ∷ []))
    (broken ∷ sound ∷ sound ∷ broken ∷ sound ∷ broken ∷ sound ∷ broken ∷ [])
    ∷ example (map (λ m. usb_tries (usb 1 1 4 m 64 0) 0) (0 ∷ 4 ∷ 8 ∷ 12 ∷ 1016 ∷ 1020 ∷ 1024 ∷ 1028 ∷ 1032 ∷ []))
    (broken ∷ broken ∷ sound ∷ broken ∷ sound ∷ broken ∷ sound ∷ broken ∷ broken ∷ [])
    -- X 8 to 255 with a byte LEN, 8 to 65,535 with a word LEN: 7, 8, 255, 256, 65,535, 65,536
    ∷ example (longest 0) (broken ∷ sound ∷ sound ∷ broken ∷ broken ∷ broken ∷ [])
    ∷ example (longest 1) (broken ∷ sound ∷ sound ∷ broken ∷ broken ∷ broken ∷ [])
    ∷ example (longest 2) (broken ∷ sound ∷ sound ∷ broken ∷ broken ∷ broken ∷ [])
    ∷ example (longest 3) (broken ∷ sound ∷ sound ∷ sound ∷ sound ∷ broken ∷ [])
    ∷ example (longest 4) (broken ∷ sound ∷ sound ∷ sound ∷ sound ∷ broken ∷ [])
    ∷ example (longest 5) (broken ∷ sound ∷ sound ∷ sound ∷ sound ∷ broken ∷ [])
    -- a known expected or first counter: one byte in header 1, two in header 4, and any number where there is no CTR
    ∷ example (counted 1 (255 ∷ 256 ∷ [])) (taken 255 ∷ broken ∷ [])
    ∷ example (counted 4 (65535 ∷ 65536 ∷ [])) (taken 65535 ∷ broken ∷ [])
    ∷ example (map (λ h. usb_tries (usb h 1 4 16 64 0) 65536) (0 ∷ 2 ∷ 3 ∷ 5 ∷ []))
    (taken 65536 ∷ taken 65536 ∷ taken 65536 ∷ taken 65536 ∷ [])
    -- FlexRay: node 0 to 255; direction; F even, 8 to 254
    ∷ example (map (λ n. flexray_tries (flexray n 0 32 5 2) 0) (0 ∷ 255 ∷ 256 ∷ [])) (framed ∷ framed ∷ broken ∷ [])
    ∷ example (map (λ d. flexray_tries (flexray 7 d 32 5 2) 0) (0 ∷ 1 ∷ 2 ∷ [])) (framed ∷ framed ∷ broken ∷ [])
    ∷ example (map (λ f. flexray_tries (flexray 7 0 f 5 2) 0) (0 ∷ 6 ∷ 7 ∷ 8 ∷ 9 ∷ 253 ∷ 254 ∷ 255 ∷ 256 ∷ []))
    (broken ∷ broken ∷ broken ∷ framed ∷ broken ∷ broken ∷ framed ∷ broken ∷ broken ∷ [])
    -- the pairs of header and A: 0, 1, 2, 3, 4, 8
    ∷ example (aligned 0) (broken ∷ framed ∷ broken ∷ broken ∷ broken ∷ broken ∷ [])
    ∷ example (aligned 1) (broken ∷ broken ∷ framed ∷ broken ∷ broken ∷ broken ∷ [])
    ∷ example (aligned 2) (broken ∷ broken ∷ broken ∷ broken ∷ framed ∷ broken ∷ [])
    ∷ example (aligned 3) (broken ∷ framed ∷ framed ∷ broken ∷ broken ∷ broken ∷ [])
    ∷ example (aligned 4) (broken ∷ broken ∷ broken ∷ broken ∷ framed ∷ broken ∷ [])
    ∷ example (aligned 5) (broken ∷ framed ∷ framed ∷ broken ∷ broken ∷ broken ∷ [])
    ∷ example (aligned 6) (broken ∷ broken ∷ broken ∷ broken ∷ framed ∷ broken ∷ [])
    ∷ example (aligned 7) (broken ∷ framed ∷ broken ∷ broken ∷ broken ∷ broken ∷ [])
    ∷ example (aligned 8) (broken ∷ broken ∷ framed ∷ broken ∷ framed ∷ broken ∷ [])
    ∷ example (aligned 9) (broken ∷ broken ∷ broken ∷ broken ∷ broken ∷ broken ∷ [])
    -- a counter has one byte: 255 and 256 with CTR, in headers 3, 4, 7 and 8
    ∷ example (map (flexray_tries (flexray 7 0 32 3 1)) (255 ∷ 256 ∷ [])) (framed ∷ broken ∷ [])
    ∷ example (map (flexray_tries (flexray 7 0 32 4 4)) (255 ∷ 256 ∷ [])) (framed ∷ broken ∷ [])
    ∷ example (map (flexray_tries (flexray 7 0 32 7 1)) (255 ∷ 256 ∷ [])) (framed ∷ broken ∷ [])
    ∷ example (map (flexray_tries (flexray 7 0 32 8 2)) (255 ∷ 256 ∷ [])) (framed ∷ broken ∷ [])
    ∷ example (map (λ s. flexray_tries s 256) (R0 ∷ flexray 7 0 32 1 2 ∷ flexray 7 0 32 2 4 ∷ R ∷ flexray 7 0 32 6 4 ∷ []))
    (framed ∷ framed ∷ framed ∷ framed ∷ framed ∷ [])
    -- UDP: X 8 to 1,468; direction 0, 1; a counter of two bytes
    ∷ example (map (λ x. udp_tries (udp x 0) 0) (0 ∷ 7 ∷ 8 ∷ 1468 ∷ 1469 ∷ [])) (broken ∷ broken ∷ sound ∷ sound ∷ broken ∷ [])
    ∷ example (map (λ d. udp_tries (udp 64 d) 0) (0 ∷ 1 ∷ 2 ∷ [])) (sound ∷ sound ∷ broken ∷ [])
    ∷ example (map (udp_tries (udp 64 0)) (65535 ∷ 65536 ∷ [])) (taken 65535 ∷ broken ∷ [])
    ∷ []

---- Numbers, kinds and parts ---------------------------------------------------------------------------------------------------

-- three bytes of which parts are asked for
abbrev input : List ℕ
input = 0x10 ∷ 0x11 ∷ 0x12 ∷ []

unfoldable pub numbers : List (Example (List ℕ))
numbers =
    -- the longest transfer, the most lengths, the highest ceiling, the longest datagram; a datagram's header is USB header 4
    example (most_bytes ∷ most_lengths ∷ F.most_ceiling ∷ D.most_datagram ∷ []) (262144 ∷ 4096 ∷ 254 ∷ 1472 ∷ [])
    ∷ example (size D.fields ∷ width LEN D.fields ∷ place CTR D.fields ∷ width CTR D.fields ∷ [])
    (size (U.header 4) ∷ width LEN (U.header 4) ∷ place CTR (U.header 4) ∷ width CTR (U.header 4) ∷ [])
    ∷ example (D.H ∷ D.W ∷ []) (size D.fields ∷ width CTR D.fields ∷ [])
    -- from the slave: FF, FE, FD, FC, and 00 to FB; from the master: C0 to FF, and 00 to BF; by the first byte
    ∷ example (map (λ b. kind_of 0 (b ∷ 0xFF ∷ [])) (0xFF ∷ 0xFE ∷ 0xFD ∷ 0xFC ∷ 0xFB ∷ 0xC0 ∷ 0x00 ∷ []))
    (1 ∷ 2 ∷ 3 ∷ 4 ∷ 5 ∷ 5 ∷ 5 ∷ [])
    ∷ example (map (λ b. kind_of 1 (b ∷ 0x00 ∷ [])) (0xFF ∷ 0xFC ∷ 0xC0 ∷ 0xBF ∷ 0x00 ∷ [])) (6 ∷ 6 ∷ 6 ∷ 7 ∷ 7 ∷ [])
    -- a part with no byte, or a direction above 1, has no kind, which is 0 by our own choice
    ∷ example (kind_of 0 [] ∷ kind_of 1 [] ∷ kind_of 2 (0xFF ∷ []) ∷ []) (0 ∷ 0 ∷ 0 ∷ [])
    -- parts of two bytes: the last two, and one that runs past the input; of none: at the end, and behind it
    ∷ example (part_of input 1 2) (0x11 ∷ 0x12 ∷ [])
    ∷ example (part_of input 2 2) []
    ∷ example (map check_number (check_of input 1 2 ∷ check_of input 2 2 ∷ check_of input 3 0 ∷ check_of input 4 0 ∷ []))
    (0 ∷ 5 ∷ 0 ∷ 5 ∷ [])
    ∷ example (map check_place (check_of input 2 2 ∷ check_of input 4 0 ∷ [])) (2 ∷ 4 ∷ [])
    ∷ []

pub bounded : (map (λ x. x.gives) bounds ≡ map (λ x. x.is) bounds) × (map (λ x. x.gives) numbers ≡ map (λ x. x.is) numbers)
unfolding bounds numbers walk go valid later table behind packets mismatched first in_bounds settled weighed
    U.headers U.sound UsbReading.len_at UsbReading.judge UsbReading.seen UsbReading.ahead UsbReading.judged UsbReading.read_of
    UsbWriting.write UsbWriting.misfit UsbWriting.composed UsbWriting.write_of F.headers F.sound FlexRayReading.judged FlexRayReading.read_of
    FlexRayWriting.frame FlexRayWriting.spans FlexRayWriting.miscounted FlexRayWriting.composed FlexRayWriting.write_of
    D.fields D.sound UdpReading.seen UdpReading.ahead UdpReading.judged UdpReading.read_of
    UdpWriting.write UdpWriting.misfit UdpWriting.composed UdpWriting.write_of
bounded = (refl, refl)
