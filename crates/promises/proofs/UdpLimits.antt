-- UDP as calls, in a table under one proof that is computed: datagrams written and read back, and each refusal with its place and which of two comes first.
-- Each line is what document 01's table and Ask 3 say of a call.
use Prim.Native.Nat.{ℕ}
use mathlib.Core.Path.{◌≡◌, refl}
use mathlib.Core.List.{List, [], ◌∷◌, ◌++◌, map}
use lib.ListN.{replicate}
use Rattle.layout.specs.Walk.{walk, go}
use Rattle.packet.specs.Answer.{bounded, settled, weighed}
use Rattle.packet.specs.Counter.{fresh, valid, gap, next, later, advance}
use Rattle.packet.specs.Packets.{packets, mismatched, first}
use Rattle.packet.specs.Row.{row, table, behind}
use Rattle.udp.specs.Setting as D
use Rattle.udp.specs.Reading as UdpReading
use Rattle.udp.specs.Writing as UdpWriting
use Rattle.promises.proofs.Starred.{expecting, spare, Result, Result.read, Result.wrote, rows, unread, bytes, unwritten, datagram, two}
use Rattle.promises.proofs.Starred.{Example, example, udp, udp_reads, udp_writes}

-- a message of one byte, a header with LEN zero, one with LEN over X, one whose packet is cut, three bytes of one, and X 8
abbrev one : List ℕ
one = 0x01 ∷ 0x00 ∷ 0x07 ∷ 0x00 ∷ 0xFF ∷ []

abbrev zeroed : List ℕ
zeroed = 0x00 ∷ 0x00 ∷ 0x08 ∷ 0x00 ∷ []

abbrev over : List ℕ
over = 0x09 ∷ 0x00 ∷ 0x08 ∷ 0x00 ∷ []

abbrev cut : List ℕ
cut = 0x08 ∷ 0x00 ∷ 0x08 ∷ 0x00 ∷ 0xFF ∷ []

abbrev three : List ℕ
three = 0x01 ∷ 0x00 ∷ 0x08 ∷ []

-- a datagram of one message with n bytes and counter 258; LEN's low byte is l, its high byte h
abbrev long : (l h n : ℕ) → List ℕ
long l h n = l ∷ h ∷ 0x02 ∷ 0x01 ∷ replicate n 5

unfoldable pub calls : List (Example Result)
calls =
    -- X itself, and one byte more; from the master; a LEN whose high byte counts; a fresh state is not read
    example (udp_reads (udp 8 0) (long 8 0 8) fresh) (rows 1 (expecting 259) (4 ∷ 8 ∷ 258 ∷ 0 ∷ 5 ∷ []) 7)
    ∷ example (udp_reads (udp 8 0) (long 9 0 9) fresh) (unread 3 0 12)
    ∷ example (udp_reads (udp 1468 1) (long 8 0 8) (expecting 2)) (rows 1 (expecting 259) (4 ∷ 8 ∷ 258 ∷ 256 ∷ 7 ∷ []) 7)
    ∷ example (udp_reads (udp 1468 0) (long 0x01 0x01 257) (record { known = 0; expected = 65536 }))
    (rows 1 (expecting 259) (4 ∷ 257 ∷ 258 ∷ 0 ∷ 5 ∷ []) 7)
    -- the longest datagram, and one byte more
    ∷ example (udp_reads (udp 1468 0) (long 0xBC 0x05 1468) fresh) (rows 1 (expecting 259) (4 ∷ 1468 ∷ 258 ∷ 0 ∷ 5 ∷ []) 7)
    ∷ example (udp_reads (udp 1468 0) (long 0xBC 0x05 1469) fresh) (unread 2 0 12)
    -- one to three bytes left over; LEN zero; LEN over X; a packet cut: at the start, and behind a message
    ∷ example (udp_reads (udp 8 0) (0x01 ∷ []) fresh) (unread 5 0 12)
    ∷ example (udp_reads (udp 8 0) (one ++ (0x01 ∷ 0x00 ∷ [])) fresh) (unread 5 5 12)
    ∷ example (udp_reads (udp 8 0) (one ++ three) fresh) (unread 5 5 12)
    ∷ example (udp_reads (udp 8 0) zeroed fresh) (unread 6 0 12)
    ∷ example (udp_reads (udp 8 0) (one ++ zeroed) fresh) (unread 6 5 12)
    ∷ example (udp_reads (udp 8 0) (one ++ over) fresh) (unread 3 5 12)
    ∷ example (udp_reads (udp 8 0) (one ++ cut) fresh) (unread 5 5 12)
    -- the leftmost counts
    ∷ example (udp_reads (udp 8 0) (zeroed ++ three) fresh) (unread 6 0 12)
    ∷ example (udp_reads (udp 8 0) (over ++ zeroed) fresh) (unread 3 0 12)
    -- the reader refuses: 1, 2, the leftmost of these, then 4
    ∷ example (udp_reads (udp 7 0) (long 0xBC 0x05 1469) fresh) (unread 1 0 12)
    ∷ example (udp_reads (udp 8 0) zeroed (expecting 65536)) (unread 1 0 12)
    ∷ example (udp_reads (udp 8 0) (replicate 1473 0) fresh) (unread 2 0 12)
    ∷ example (read (UdpReading.read_of (udp 8 0) (one ++ three) fresh [])) (unread 5 5 0)
    ∷ example (read (UdpReading.read_of (udp 8 0) one fresh (spare 4))) (unread 4 0 4)
    ∷ example (read (UdpReading.read_of (udp 8 0) one fresh (spare 5))) (rows 1 (expecting 8) (4 ∷ 1 ∷ 7 ∷ 0 ∷ 1 ∷ []) 0)
    -- the writer: X itself and a high byte of LEN; then 1, 2, 3 at its least index, 4
    ∷ example (wrote (UdpWriting.write_of (udp 1468 0) (replicate 257 5) (257 ∷ []) 258 (spare 261))) (bytes 261 259 (long 0x01 0x01 257) 0)
    ∷ example (udp_writes (udp 7 0) two (1 ∷ []) 0) (unwritten 1 0 16)
    ∷ example (udp_writes (udp 8 0) two (1 ∷ []) 65536) (unwritten 1 0 16)
    ∷ example (udp_writes (udp 8 0) two (1 ∷ 0 ∷ []) 0) (unwritten 2 0 16)
    ∷ example (udp_writes (udp 8 0) [] (replicate 4097 0) 0) (unwritten 2 0 16)
    ∷ example (udp_writes (udp 8 0) [] (replicate 4096 0) 0) (unwritten 3 0 16)
    ∷ example (udp_writes (udp 8 0) (replicate 10 5) (1 ∷ 9 ∷ 0 ∷ []) 0) (unwritten 3 1 16)
    ∷ example (wrote (UdpWriting.write_of (udp 8 0) (replicate 9 5) (9 ∷ []) 0 [])) (unwritten 3 0 0)
    ∷ example (wrote (UdpWriting.write_of (udp 64 0) two (1 ∷ 3 ∷ []) 65535 (spare 11))) (unwritten 4 0 11)
    ∷ example (wrote (UdpWriting.write_of (udp 64 0) two (1 ∷ 3 ∷ []) 65535 (spare 12))) (bytes 12 1 datagram 0)
    -- the longest datagram, and one byte more
    ∷ example (wrote (UdpWriting.write_of (udp 1468 0) (replicate 1468 5) (1468 ∷ []) 258 (spare 1480))) (bytes 1472 259 (long 0xBC 0x05 1468) 8)
    ∷ example (wrote (UdpWriting.write_of (udp 1468 0) (replicate 1465 5) (1464 ∷ 1 ∷ []) 0 (spare 1480))) (unwritten 4 0 1480)
    ∷ []

pub udp_limits : map (λ x. x.gives) calls ≡ map (λ x. x.is) calls
unfolding calls walk go valid gap next later advance row table behind packets mismatched first bounded settled weighed
    D.fields D.sound UdpReading.seen UdpReading.ahead UdpReading.judged UdpReading.read_of
    UdpWriting.write UdpWriting.misfit UdpWriting.composed UdpWriting.write_of
udp_limits = refl
