-- Fields of several parts: which number the parts make, and which numbers are made of parts.
use Rattle.std.specs.Prelude.{ℕ, ◌+◌, ◌*◌, ◌<◌, Bool, false, ◌&&◌, ◌==◌, nat_lt}
use Rattle.mac_types.specs.declared.fields.FrameFlags.{FrameFlags}
use Rattle.mac_types.specs.declared.fields.AckPolicy.{AckPolicy}
use Rattle.mac_types.specs.declared.fields.AckPolicy.TheVariants as policies
use Rattle.mac_types.specs.declared.fields.QosControl.{QosControl}
use Rattle.mac_types.specs.declared.fields.BlockAckPolicy.{BlockAckPolicy}
use Rattle.mac_types.specs.declared.fields.BlockAckPolicy.TheVariants as block_policies
use Rattle.mac_types.specs.declared.fields.BlockAckParameters.{BlockAckParameters}
use Rattle.mac_types.specs.declared.fields.DelbaParameters.{DelbaParameters}
use Rattle.mac_types.specs.Bits.{bits, bit_of}
use Rattle.mac_types.specs.Numbers.{IsTid, IsBufferSize}

-- ---- the second octet of Frame Control (IEEE 802.11-2016, 9.2.4.1): bit 0 To DS, 1 From DS, 2 More Fragments,
-- 3 Retry, 4 Power Management, 5 More Data, 6 Protected Frame, 7 Order

-- the octet of these flags
abbrev pub flags_octet : Bool → FrameFlags → ℕ
flags_octet to_ds f =
    bit_of to_ds + 8 * bit_of f.retry + 16 * bit_of f.power_management + 32 * bit_of f.more_data

-- any flags
abbrev pub IsFrameFlags : FrameFlags → Type 0
IsFrameFlags f = Unit {0}

-- this To DS, and no From DS, More Fragments, Protected Frame or Order
abbrev pub are_flags : Bool → ℕ → Bool
are_flags to_ds octet =
    (bits octet 0 1 == bit_of to_ds) && ((bits octet 1 1 == 0)
    && ((bits octet 2 1 == 0) && ((bits octet 6 1 == 0) && (bits octet 7 1 == 0))))

-- ---- QoS Control (9.2.4.5): bits 0 to 3 the TID, 4 the end of a service period, 5 and 6 the Ack Policy, 7 A-MSDU
-- Present, 8 to 15 on transmission opportunities and queues

-- the two bits of the Ack Policy
abbrev pub ack_policy : AckPolicy → ℕ
ack_policy policies.Normal = 0
ack_policy policies.NoAck = 1
ack_policy policies.NoExplicitAck = 2
ack_policy policies.BlockAck = 3

-- the field of these parts, without an A-MSDU
abbrev pub qos_control : QosControl → ℕ
qos_control q =
    q.tid + 16 * bit_of q.end_of_service_period + 32 * ack_policy q.ack_policy + 256 * q.upper

-- a TID below 8, and eight upper bits
abbrev pub IsQosControl : QosControl → Type 0
IsQosControl q = IsTid q.tid × (q.upper < 256)

-- a TID below 8, and no A-MSDU
abbrev pub is_qos_control : ℕ → Bool
is_qos_control field = nat_lt (bits field 0 4) 8 && (bits field 7 1 == 0)

-- ---- Block Ack Parameter Set (9.4.1.14): bit 0 A-MSDU Supported, 1 the Block Ack Policy, 2 to 5 the TID, 6 to 15
-- the buffer size

-- the bit of the Block Ack Policy
abbrev pub block_ack_policy : BlockAckPolicy → ℕ
block_ack_policy block_policies.Delayed = 0
block_ack_policy block_policies.Immediate = 1

-- the field of these parts
abbrev pub block_ack_parameters : BlockAckParameters → ℕ
block_ack_parameters p =
    bit_of p.amsdu_supported + 2 * block_ack_policy p.policy + 4 * p.tid + 64 * p.buffer_size

-- a TID below 8, and a buffer size of ten bits
abbrev pub IsBlockAckParameters : BlockAckParameters → Type 0
IsBlockAckParameters p = IsTid p.tid × IsBufferSize p.buffer_size

-- immediate acknowledgement, and no A-MSDU
abbrev pub immediate_parameters : ℕ → ℕ → BlockAckParameters
immediate_parameters tid size =
    record {
      amsdu_supported = false;
      policy = block_policies.Immediate;
      tid = tid;
      buffer_size = size;
    }

-- a TID below 8
abbrev pub are_block_ack_parameters : ℕ → Bool
are_block_ack_parameters field = nat_lt (bits field 2 4) 8

-- ---- DELBA Parameter Set (9.4.1.16): bits 0 to 10 are reserved, 11 is Initiator, 12 to 15 the TID

-- the field of these parts
abbrev pub delba_parameters : DelbaParameters → ℕ
delba_parameters p = 2048 * bit_of p.initiator + 4096 * p.tid

-- a TID below 8
abbrev pub IsDelbaParameters : DelbaParameters → Type 0
IsDelbaParameters p = IsTid p.tid

-- a TID below 8, and no reserved bit
abbrev pub are_delba_parameters : ℕ → Bool
are_delba_parameters field = nat_lt (bits field 12 4) 8 && (bits field 0 11 == 0)
