-- FlexRay as calls, in tables under one proof that is computed: every header's fields, a frame's length, and each refusal with its place and which of
-- two comes first. Each line is what document 01 says of a call.
use Prim.Native.Nat.{ℕ}
use mathlib.Core.Path.{◌≡◌, refl}
use mathlib.Core.List.{List, [], ◌∷◌, map}
use lib.ListN.{replicate}
use Rattle.layout.specs.Multiple.{pad}
use Rattle.layout.specs.Walk.{walk, go}
use Rattle.packet.specs.declared.Counter.{Counter}
use Rattle.packet.specs.Counter.{fresh, valid, gap, next, later, advance}
use Rattle.packet.specs.Row.{row, table, behind}
use Rattle.packet.specs.Packets.{packets, mismatched, first}
use Rattle.packet.specs.Answer.{settled, weighed}
use Rattle.flexray.specs.declared.Setting as FlexRaySetting
use Rattle.flexray.specs.Setting as F
use Rattle.flexray.specs.Reading as FlexRayReading
use Rattle.flexray.specs.Row as FlexRayRow
use Rattle.flexray.specs.Writing as FlexRayWriting
use Rattle.promises.proofs.Starred.{R, R0, expecting, spare, Result, Result.read, Result.wrote, rows, unread, bytes, unwritten, both}
use Rattle.promises.proofs.Starred.{Example, example, flexray, flexray_reads, flexray_writes}

-- Packets bs of the lengths ns are written with the counter c and the fill byte EE as the frame t, with the next counter d; t is read with the
-- state e as the rows rs, which leave the state f
abbrev flexray_both : FlexRaySetting.Setting → (bs ns : List ℕ) (c : ℕ) (t : List ℕ) (d : ℕ) (e f : Counter) (rs : List ℕ)
    → Example (Result × Result)
flexray_both s bs ns c t d e f rs = example (flexray_writes s bs ns c 0xEE, flexray_reads s t e) (both t d f rs)

-- node 7, F 32, by the header and A; the same with F 8
abbrev pub frame : ℕ → ℕ → FlexRaySetting.Setting
frame h a = flexray 7 0 32 h a

abbrev short : ℕ → ℕ → FlexRaySetting.Setting
short h a = flexray 7 0 8 h a

unfoldable pub frames : List (Example (Result × Result))
frames =
    -- NAX FILL; NAX FILL×3. Without CTR the state is neither read nor altered
    flexray_both (frame 1 2) (0xFE ∷ 0x01 ∷ []) (2 ∷ []) 300
    (0x07 ∷ 0xEE ∷ 0xFE ∷ 0x01 ∷ []) 300 (expecting 300) (expecting 300) (2 ∷ 2 ∷ 0 ∷ 0 ∷ 2 ∷ [])
    ∷ flexray_both (frame 2 4) (0xFE ∷ 0x01 ∷ []) (2 ∷ []) 300
    (0x07 ∷ 0xEE ∷ 0xEE ∷ 0xEE ∷ 0xFE ∷ 0x01 ∷ []) 300 (expecting 300) (expecting 300) (4 ∷ 2 ∷ 0 ∷ 0 ∷ 2 ∷ [])
    -- NAX CTR; NAX CTR FILL×2. The counter goes from 255 to 0
    ∷ flexray_both (frame 3 2) (0xFE ∷ 0x01 ∷ []) (2 ∷ []) 255
    (0x07 ∷ 0xFF ∷ 0xFE ∷ 0x01 ∷ []) 0 (expecting 250) (expecting 0) (2 ∷ 2 ∷ 255 ∷ 5 ∷ 2 ∷ [])
    ∷ flexray_both (frame 4 4) (0xFE ∷ 0x01 ∷ []) (2 ∷ []) 255
    (0x07 ∷ 0xFF ∷ 0xEE ∷ 0xEE ∷ 0xFE ∷ 0x01 ∷ []) 0 (expecting 250) (expecting 0) (4 ∷ 2 ∷ 255 ∷ 5 ∷ 2 ∷ [])
    -- NAX LEN; NAX FILL×2 LEN, with packets of two, three and four bytes before the next LEN
    ∷ flexray_both (frame 5 1) (0xFE ∷ 0x01 ∷ 0xFC ∷ []) (2 ∷ 1 ∷ []) 300
    (0x07 ∷ 0x02 ∷ 0xFE ∷ 0x01 ∷ 0x01 ∷ 0xFC ∷ []) 300
    (expecting 300) (expecting 300) (2 ∷ 2 ∷ 0 ∷ 0 ∷ 2 ∷ 5 ∷ 1 ∷ 0 ∷ 0 ∷ 4 ∷ [])
    ∷ flexray_both (frame 6 4) (0xFE ∷ 0x01 ∷ 0xFC ∷ []) (2 ∷ 1 ∷ []) 300
    (0x07 ∷ 0xEE ∷ 0xEE ∷ 0x02 ∷ 0xFE ∷ 0x01 ∷ 0xEE ∷ 0x01 ∷ 0xFC ∷ 0xEE ∷ []) 300
    (expecting 300) (expecting 300) (4 ∷ 2 ∷ 0 ∷ 0 ∷ 2 ∷ 8 ∷ 1 ∷ 0 ∷ 0 ∷ 4 ∷ [])
    ∷ flexray_both (frame 6 4) (0xFE ∷ 0x01 ∷ 0x02 ∷ 0xFC ∷ []) (3 ∷ 1 ∷ []) 300
    (0x07 ∷ 0xEE ∷ 0xEE ∷ 0x03 ∷ 0xFE ∷ 0x01 ∷ 0x02 ∷ 0x01 ∷ 0xFC ∷ 0xEE ∷ []) 300
    (expecting 300) (expecting 300) (4 ∷ 3 ∷ 0 ∷ 0 ∷ 2 ∷ 8 ∷ 1 ∷ 0 ∷ 0 ∷ 4 ∷ [])
    ∷ flexray_both (frame 6 4) (0xFE ∷ 0x01 ∷ 0x02 ∷ 0x03 ∷ 0xFC ∷ []) (4 ∷ 1 ∷ []) 300
    (0x07 ∷ 0xEE ∷ 0xEE ∷ 0x04 ∷ 0xFE ∷ 0x01 ∷ 0x02 ∷ 0x03 ∷ 0xEE ∷ 0xEE ∷ 0xEE ∷ 0x01 ∷ 0xFC ∷ 0xEE ∷ []) 300
    (expecting 300) (expecting 300) (4 ∷ 4 ∷ 0 ∷ 0 ∷ 2 ∷ 12 ∷ 1 ∷ 0 ∷ 0 ∷ 4 ∷ [])
    -- NAX CTR LEN; NAX CTR FILL LEN. The first packet carries counter and gap, further ones none, and the frame moves the counter by one
    ∷ flexray_both (frame 7 1) (0xFE ∷ 0x01 ∷ 0xFC ∷ []) (2 ∷ 1 ∷ []) 255
    (0x07 ∷ 0xFF ∷ 0x02 ∷ 0xFE ∷ 0x01 ∷ 0x01 ∷ 0xFC ∷ 0x00 ∷ []) 0
    (expecting 250) (expecting 0) (3 ∷ 2 ∷ 255 ∷ 5 ∷ 2 ∷ 6 ∷ 1 ∷ 0 ∷ 0 ∷ 4 ∷ [])
    ∷ flexray_both (frame 7 1) (0xFE ∷ []) (1 ∷ []) 2
    (0x07 ∷ 0x02 ∷ 0x01 ∷ 0xFE ∷ []) 3 (expecting 5) (expecting 3) (3 ∷ 1 ∷ 2 ∷ 253 ∷ 2 ∷ [])
    ∷ flexray_both (frame 8 2) (0xFE ∷ 0x01 ∷ 0xFC ∷ []) (2 ∷ 1 ∷ []) 255
    (0x07 ∷ 0xFF ∷ 0xEE ∷ 0x02 ∷ 0xFE ∷ 0x01 ∷ 0xEE ∷ 0x01 ∷ 0xFC ∷ 0x00 ∷ []) 0
    (expecting 250) (expecting 0) (4 ∷ 2 ∷ 255 ∷ 5 ∷ 2 ∷ 8 ∷ 1 ∷ 0 ∷ 0 ∷ 4 ∷ [])
    ∷ flexray_both (frame 8 4) (0xFE ∷ 0x01 ∷ 0xFC ∷ []) (2 ∷ 1 ∷ []) 255
    (0x07 ∷ 0xFF ∷ 0xEE ∷ 0x02 ∷ 0xFE ∷ 0x01 ∷ 0xEE ∷ 0x01 ∷ 0xFC ∷ 0xEE ∷ []) 0
    (expecting 250) (expecting 0) (4 ∷ 2 ∷ 255 ∷ 5 ∷ 2 ∷ 8 ∷ 1 ∷ 0 ∷ 0 ∷ 4 ∷ [])
    -- NAX CTR with A 1, a state whose mark is 7, and EV
    ∷ flexray_both (frame 3 1) (0xFD ∷ 0x01 ∷ []) (2 ∷ []) 0
    (0x07 ∷ 0x00 ∷ 0xFD ∷ 0x01 ∷ []) 1 (record { known = 7; expected = 255 }) (expecting 1) (2 ∷ 2 ∷ 0 ∷ 1 ∷ 3 ∷ [])
    ∷ []

unfoldable pub calls : List (Example Result)
calls =
    -- a fresh state is not read; from the master; behind a zero on the next LEN place all bytes are free
    example (flexray_reads (frame 3 1) (0x07 ∷ 0x02 ∷ 0xFE ∷ 0x01 ∷ []) (record { known = 0; expected = 300 }))
    (rows 1 (expecting 3) (2 ∷ 2 ∷ 2 ∷ 0 ∷ 2 ∷ []) 7)
    ∷ example (flexray_reads (flexray 7 1 32 5 2) (0x07 ∷ 0x02 ∷ 0x01 ∷ 0x02 ∷ 0xEE ∷ 0x01 ∷ 0xFF ∷ 0x00 ∷ []) fresh)
    (rows 2 fresh (2 ∷ 2 ∷ 0 ∷ 0 ∷ 7 ∷ 6 ∷ 1 ∷ 0 ∷ 0 ∷ 6 ∷ []) 2)
    ∷ example (flexray_reads R (0x07 ∷ 0x01 ∷ 0xFF ∷ 0x00 ∷ 0x05 ∷ 0x06 ∷ []) fresh) (rows 1 fresh (2 ∷ 1 ∷ 0 ∷ 0 ∷ 1 ∷ []) 7)
    -- a frame has even length, H + 1 to F
    ∷ example (flexray_reads R0 (0x07 ∷ 0xFF ∷ []) fresh) (rows 1 fresh (1 ∷ 1 ∷ 0 ∷ 0 ∷ 1 ∷ []) 7)
    ∷ example (flexray_reads (frame 1 2) (0x07 ∷ 0xEE ∷ []) fresh) (unread 6 0 12)
    ∷ example (flexray_reads (short 0 1) (0x07 ∷ 0x01 ∷ 0x02 ∷ 0x03 ∷ 0x04 ∷ 0x05 ∷ 0x06 ∷ 0x07 ∷ []) fresh)
    (rows 1 fresh (1 ∷ 7 ∷ 0 ∷ 0 ∷ 5 ∷ []) 7)
    ∷ example (flexray_reads (short 0 1) (0x07 ∷ 0x01 ∷ 0x02 ∷ 0x03 ∷ 0x04 ∷ 0x05 ∷ 0x06 ∷ 0x07 ∷ 0x08 ∷ 0x09 ∷ []) fresh)
    (unread 8 0 12)
    ∷ example (flexray_reads (short 0 1) (0x07 ∷ 0x01 ∷ 0x02 ∷ 0x03 ∷ 0x04 ∷ 0x05 ∷ 0x06 ∷ []) fresh) (unread 8 0 12)
    ∷ example (flexray_reads (frame 2 4) (0x07 ∷ 0xEE ∷ 0xEE ∷ 0xEE ∷ []) fresh) (unread 6 0 12)
    ∷ example (flexray_reads (frame 7 1) (0x07 ∷ 0x00 ∷ []) fresh) (unread 6 0 12)
    ∷ example (flexray_reads (flexray 7 0 254 0 1) (7 ∷ replicate 253 5) fresh) (rows 1 fresh (1 ∷ 253 ∷ 0 ∷ 0 ∷ 5 ∷ []) 7)
    ∷ example (flexray_reads (flexray 7 0 254 0 1) (7 ∷ replicate 255 5) fresh) (unread 8 0 12)
    -- NAX equals the node, 0 and 255 too
    ∷ example (flexray_reads (flexray 0 0 32 0 1) (0x00 ∷ 0x01 ∷ []) fresh) (rows 1 fresh (1 ∷ 1 ∷ 0 ∷ 0 ∷ 5 ∷ []) 7)
    ∷ example (flexray_reads (flexray 255 0 32 0 1) (0xFF ∷ 0x01 ∷ []) fresh) (rows 1 fresh (1 ∷ 1 ∷ 0 ∷ 0 ∷ 5 ∷ []) 7)
    ∷ example (flexray_reads (flexray 255 0 32 0 1) (0x00 ∷ 0x01 ∷ []) fresh) (unread 7 0 12)
    -- the reader refuses: 1, 8, 6 by length, 7, then 6, 5 leftmost, then 4
    ∷ example (flexray_reads (frame 0 2) (0x07 ∷ []) fresh) (unread 1 0 12)
    ∷ example (flexray_reads (frame 3 1) (0x07 ∷ []) (expecting 256)) (unread 1 0 12)
    ∷ example (flexray_reads (frame 1 2) (0x08 ∷ []) fresh) (unread 8 0 12)
    ∷ example (flexray_reads (frame 1 2) (0x08 ∷ 0x00 ∷ []) fresh) (unread 6 0 12)
    ∷ example (flexray_reads R (0x08 ∷ 0x00 ∷ 0xFF ∷ 0xFF ∷ []) fresh) (unread 7 0 12)
    ∷ example (flexray_reads R (0x07 ∷ 0x00 ∷ 0xFF ∷ 0xFF ∷ []) fresh) (unread 6 0 12)
    ∷ example (flexray_reads R (0x07 ∷ 0x03 ∷ 0xFF ∷ 0xFF ∷ []) fresh) (unread 5 0 12)
    ∷ example (flexray_reads R (0x07 ∷ 0x02 ∷ 0x01 ∷ 0x02 ∷ 0xEE ∷ 0x02 ∷ 0xFF ∷ 0x00 ∷ []) fresh)
    (rows 2 fresh (2 ∷ 2 ∷ 0 ∷ 0 ∷ 5 ∷ 6 ∷ 2 ∷ 0 ∷ 0 ∷ 1 ∷ []) 2)
    ∷ example (flexray_reads R (0x07 ∷ 0x02 ∷ 0x01 ∷ 0x02 ∷ 0xEE ∷ 0x03 ∷ 0xFF ∷ 0x00 ∷ []) fresh) (unread 5 5 12)
    -- the first LEN, and a later one, in headers 6, 7 and 8
    ∷ example (flexray_reads (frame 6 4) (0x07 ∷ 0xEE ∷ 0xEE ∷ 0x00 ∷ 0xFF ∷ 0xFF ∷ []) fresh) (unread 6 0 12)
    ∷ example (flexray_reads (frame 7 1) (0x07 ∷ 0x00 ∷ 0x02 ∷ 0xFF ∷ []) fresh) (unread 5 0 12)
    ∷ example (flexray_reads (frame 8 4) (0x07 ∷ 0x00 ∷ 0xEE ∷ 0x01 ∷ 0xFF ∷ 0xEE ∷ 0xEE ∷ 0x01 ∷ []) fresh) (unread 5 7 12)
    -- 8, 7 and 5 before 4
    ∷ example (read (FlexRayReading.read_of R (0x07 ∷ 0x01 ∷ 0xFF ∷ []) fresh [])) (unread 8 0 0)
    ∷ example (read (FlexRayReading.read_of R (0x08 ∷ 0x01 ∷ 0xFF ∷ 0x00 ∷ []) fresh [])) (unread 7 0 0)
    ∷ example (read (FlexRayReading.read_of R (0x07 ∷ 0x01 ∷ 0xFF ∷ 0x00 ∷ []) fresh (spare 4))) (unread 4 0 4)
    ∷ example (read (FlexRayReading.read_of R (0x07 ∷ 0x01 ∷ 0xFF ∷ 0x00 ∷ []) fresh (spare 5)))
    (rows 1 fresh (2 ∷ 1 ∷ 0 ∷ 0 ∷ 1 ∷ []) 0)
    ∷ example (read (FlexRayReading.read_of R (0x07 ∷ 0x01 ∷ 0xFF ∷ 0xEE ∷ []) fresh [])) (unread 5 3 0)
    -- the writer: 1, 2, then 3 at its least index, then 4
    ∷ example (flexray_writes (frame 0 2) (0xFF ∷ []) (2 ∷ []) 0 0xEE) (unwritten 1 0 16)
    ∷ example (flexray_writes (frame 3 1) (0xFF ∷ []) (2 ∷ []) 256 0xEE) (unwritten 1 0 16)
    ∷ example (flexray_writes R (0xFF ∷ []) (0 ∷ []) 0 0xEE) (unwritten 2 0 16)
    ∷ example (flexray_writes R [] [] 0 0xEE) (unwritten 2 0 16)
    ∷ example (flexray_writes R0 [] (0 ∷ 0 ∷ []) 0 0xEE) (unwritten 2 0 16)
    ∷ example (flexray_writes R (0xFF ∷ []) (2 ∷ []) 0 0xEE) (unwritten 2 0 16)
    ∷ example (flexray_writes (frame 1 2) (0xFF ∷ 0xFF ∷ []) (1 ∷ 1 ∷ []) 0 0xEE) (unwritten 2 0 16)
    ∷ example (flexray_writes (frame 2 4) (0xFF ∷ 0xFF ∷ []) (1 ∷ 1 ∷ []) 0 0xEE) (unwritten 2 0 16)
    ∷ example (flexray_writes (frame 3 1) (0xFF ∷ 0xFF ∷ []) (1 ∷ 1 ∷ []) 0 0xEE) (unwritten 2 0 16)
    ∷ example (flexray_writes (frame 4 4) (0xFF ∷ 0xFF ∷ []) (1 ∷ 1 ∷ []) 0 0xEE) (unwritten 2 0 16)
    ∷ example (flexray_writes R [] (replicate 4097 0) 0 0xEE) (unwritten 2 0 16)
    ∷ example (flexray_writes R [] (replicate 4096 0) 0 0xEE) (unwritten 3 0 16)
    ∷ example (flexray_writes R (0xFF ∷ []) (1 ∷ 0 ∷ 0 ∷ []) 0 0xEE) (unwritten 3 1 16)
    ∷ example (flexray_writes R0 [] (0 ∷ []) 0 0xEE) (unwritten 3 0 16)
    ∷ example (flexray_writes (short 0 1) (replicate 7 5) (7 ∷ []) 0 0xEE) (bytes 8 0 (7 ∷ replicate 7 5) 8)
    ∷ example (flexray_writes (short 0 1) (replicate 8 5) (8 ∷ []) 0 0xEE) (unwritten 3 0 16)
    ∷ example (flexray_writes (short 5 2) (replicate 6 5) (6 ∷ []) 0 0xEE) (bytes 8 0 (7 ∷ 6 ∷ replicate 6 5) 8)
    ∷ example (flexray_writes (short 5 2) (replicate 7 5) (7 ∷ []) 0 0xEE) (unwritten 3 0 16)
    ∷ example (flexray_writes (short 5 1) (replicate 5 5) (1 ∷ 4 ∷ []) 0 0xEE) (bytes 8 0 (7 ∷ 1 ∷ 5 ∷ 4 ∷ replicate 4 5) 8)
    ∷ example (flexray_writes (short 5 1) (replicate 6 5) (1 ∷ 5 ∷ []) 0 0xEE) (unwritten 3 1 16)
    ∷ example (wrote (FlexRayWriting.write_of R (0xFF ∷ []) (1 ∷ []) 0 0xEE (spare 3))) (unwritten 4 0 3)
    ∷ example (wrote (FlexRayWriting.write_of R (0xFF ∷ []) (1 ∷ []) 0 0xEE (spare 4))) (bytes 4 0 (0x07 ∷ 0x01 ∷ 0xFF ∷ 0x00 ∷ []) 0)
    ∷ example (wrote (FlexRayWriting.write_of R (0xFF ∷ []) (2 ∷ []) 0 0xEE [])) (unwritten 2 0 0)
    ∷ example (wrote (FlexRayWriting.write_of R [] (0 ∷ []) 0 0xEE [])) (unwritten 3 0 0)
    ∷ []

pub flexray_limits : (map (λ x. x.gives) frames ≡ map (λ x. x.is) frames) × (map (λ x. x.gives) calls ≡ map (λ x. x.is) calls)
unfolding frames calls pad walk go valid gap next later advance row table behind packets mismatched first settled weighed
    F.headers F.start F.moved F.sound FlexRayReading.seen FlexRayReading.ahead FlexRayReading.judged FlexRayRow.frame_table
    FlexRayRow.frame_state FlexRayReading.read_of FlexRayWriting.evening FlexRayWriting.further FlexRayWriting.frame
    FlexRayWriting.spans_behind FlexRayWriting.spans FlexRayWriting.misfit FlexRayWriting.miscounted FlexRayWriting.composed FlexRayWriting.write_of
flexray_limits = (refl, refl)
