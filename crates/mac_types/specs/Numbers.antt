-- Numbers, and the fields that hold just one.
use Rattle.std.specs.Prelude.{ℕ, ◌+◌, ◌*◌, ◌<◌, ◌^◌, ◌≡◌, Bool, ◌&&◌, ◌==◌, nat_lt, List, length}
use Rattle.mac_types.specs.Bits.{bits}

-- an address has six octets (IEEE 802.11-2016, 9.2.4.3)
abbrev pub IsAddress : List ℕ → Type 0
IsAddress octets = length octets ≡ 6

-- a field of two octets
abbrev pub IsWord : ℕ → Type 0
IsWord field = field < 2 ^ 16

-- a TID of a traffic class, 0 to 7
abbrev pub IsTid : ℕ → Type 0
IsTid tid = tid < 8

-- sequence numbers are counted mod 4096
abbrev pub IsSequenceNumber : ℕ → Type 0
IsSequenceNumber number = number < 4096

-- a buffer size has ten bits
abbrev pub IsBufferSize : ℕ → Type 0
IsBufferSize size = size < 1024

-- ---- Sequence Control (IEEE 802.11-2016, 9.2.4.4) and Block Ack Starting Sequence Control (9.3.1.8): bits 0 to 3
-- the fragment number, 4 to 15 the sequence number

-- the field of a sequence number, without a fragment
abbrev pub sequence_control : ℕ → ℕ
sequence_control number = 16 * number

-- no fragment
abbrev pub is_sequence_control : ℕ → Bool
is_sequence_control field = bits field 0 4 == 0

-- ---- BAR Control (9.3.1.8) and BA Control (9.3.1.9): bit 0 the Ack Policy, 1 Multi-TID, 2 Compressed Bitmap,
-- 3 to 11 GCR and reserved, 12 to 15 the TID

-- the field of a TID, with a compressed bitmap
abbrev pub block_ack_control : ℕ → ℕ
block_ack_control tid = 4 + 4096 * tid

-- a TID below 8, a compressed bitmap, and nothing else
abbrev pub is_block_ack_control : ℕ → Bool
is_block_ack_control field =
    nat_lt (bits field 12 4) 8
    && ((bits field 2 1 == 1) && ((bits field 0 2 == 0) && (bits field 3 9 == 0)))
