-- The values that fields spell, read from their bits.
use Rattle.std.proofs.Common.{◌≡◌, ℕ, zero, suc, ◌<◌, Bool, true, false, ◌==◌, refl, sym, ap, ◌∙◌, arith}
use Rattle.std.specs.Prelude.{if◌then◌else◌}
use Rattle.std.proofs.lemmas.Bool.Decides.{nat_tests}
use Rattle.mac_types.specs.declared.fields.FrameFlags.{FrameFlags}
use Rattle.mac_types.specs.declared.fields.AckPolicy.{AckPolicy}
use Rattle.mac_types.specs.declared.fields.AckPolicy.TheVariants as policies
use Rattle.mac_types.specs.declared.fields.QosControl.{QosControl}
use Rattle.mac_types.specs.declared.fields.BlockAckPolicy.{BlockAckPolicy}
use Rattle.mac_types.specs.declared.fields.BlockAckPolicy.TheVariants as block_policies
use Rattle.mac_types.specs.declared.fields.BlockAckParameters.{BlockAckParameters}
use Rattle.mac_types.specs.declared.fields.DelbaParameters.{DelbaParameters}
use Rattle.mac_types.specs.Bits.{bits, bit_of}
use Rattle.mac_types.specs.Numbers.{IsTid, IsSequenceNumber, sequence_control, is_sequence_control, block_ack_control, is_block_ack_control}
use Rattle.mac_types.specs.Fields.{IsFrameFlags, flags_octet, are_flags, ack_policy, qos_control, IsQosControl, is_qos_control, block_ack_policy, block_ack_parameters, IsBlockAckParameters, are_block_ack_parameters, delba_parameters, IsDelbaParameters, are_delba_parameters}
use Rattle.mac_types.specs.Spelled.{IsSpelling}

-- ---- bits

-- a number below 2 is that of a bit
pub bit_back : (n : ℕ) → n < 2 → bit_of (n == 1) ≡ n
bit_back n lt = grind (arith, nat_tests)

pub bit_small : (b : Bool) → bit_of b < 2
bit_small false = omega arith
bit_small true = omega arith

-- the bit whose number is n
pub bit_is : (n : ℕ) (b : Bool) → n ≡ bit_of b → (n == 1) ≡ b
bit_is n false e = rw e refl
bit_is n true e = rw e refl

-- ---- sequence numbers

abbrev pub sequence_number_in : ℕ → ℕ
sequence_number_in field = bits field 4 12

pub sequence_number_back : (n : ℕ) → IsSequenceNumber n → sequence_number_in (sequence_control n) ≡ n
sequence_number_back n fits = omega arith

pub sequence_controls : IsSpelling 65536 IsSequenceNumber sequence_control is_sequence_control
sequence_controls = record {
  below = λ n fits. omega arith;
  passes = λ n fits. grind (arith, nat_tests);
  found = λ field lt e. (sequence_number_in field, omega arith, grind (arith, nat_tests));
  one = λ v w fv fw e. omega arith;
}

-- ---- the TID of a block acknowledgement's control

abbrev pub block_ack_tid_in : ℕ → ℕ
block_ack_tid_in field = bits field 12 4

pub block_ack_tid_back : (tid : ℕ) → IsTid tid → block_ack_tid_in (block_ack_control tid) ≡ tid
block_ack_tid_back tid fits = omega arith

pub block_ack_controls : IsSpelling 65536 IsTid block_ack_control is_block_ack_control
block_ack_controls = record {
  below = λ tid fits. omega arith;
  passes = λ tid fits. grind (arith, nat_tests);
  found = λ field lt e. (block_ack_tid_in field, grind (arith, nat_tests), grind (arith, nat_tests));
  one = λ v w fv fw e. omega arith;
}

-- ---- flags

abbrev pub flags_in : ℕ → FrameFlags
flags_in octet = record { retry = bits octet 3 1 == 1; power_management = bits octet 4 1 == 1; more_data = bits octet 5 1 == 1 }

pub flags_back : (to_ds : Bool) (f : FrameFlags) → flags_in (flags_octet to_ds f) ≡ f
flags_back to_ds f =
    let t : bit_of to_ds < 2 = bit_small to_ds in
    let r : bit_of f.retry < 2 = bit_small f.retry in
    let p : bit_of f.power_management < 2 = bit_small f.power_management in
    let m : bit_of f.more_data < 2 = bit_small f.more_data in
    let at3 : bits (flags_octet to_ds f) 3 1 ≡ bit_of f.retry = omega arith in
    let at4 : bits (flags_octet to_ds f) 4 1 ≡ bit_of f.power_management = omega arith in
    let at5 : bits (flags_octet to_ds f) 5 1 ≡ bit_of f.more_data = omega arith in
    let same3 = bit_is (bits (flags_octet to_ds f) 3 1) f.retry at3 in
    let same4 = bit_is (bits (flags_octet to_ds f) 4 1) f.power_management at4 in
    let same5 = bit_is (bits (flags_octet to_ds f) 5 1) f.more_data at5 in
    rw (same3, same4, same5) refl

pub flags : (to_ds : Bool) → IsSpelling 256 IsFrameFlags (flags_octet to_ds) (are_flags to_ds)
flags to_ds = record {
  below = λ f fits. omega (arith, bit_small to_ds, bit_small f.retry, bit_small f.power_management, bit_small f.more_data);
  passes = λ f fits. grind (arith, nat_tests, bit_small to_ds, bit_small f.retry, bit_small f.power_management, bit_small f.more_data);
  found = λ octet lt e. (flags_in octet, tt, grind (arith, nat_tests, bit_back (bits octet 3 1), bit_back (bits octet 4 1), bit_back (bits octet 5 1), e));
  one = λ v w fv fw e. sym (flags_back to_ds v) ∙ ap flags_in e ∙ flags_back to_ds w;
}

-- ---- QoS Control

abbrev policy_of : ℕ → AckPolicy
policy_of n = if n == 0 then policies.Normal else (if n == 1 then policies.NoAck else (if n == 2 then policies.NoExplicitAck else policies.BlockAck))

policy_back : (p : AckPolicy) → policy_of (ack_policy p) ≡ p
policy_back policies.Normal = refl
policy_back policies.NoAck = refl
policy_back policies.NoExplicitAck = refl
policy_back policies.BlockAck = refl

policy_number : (n : ℕ) → n < 4 → ack_policy (policy_of n) ≡ n
policy_number n lt = grind (arith, nat_tests)

policy_small : (p : AckPolicy) → ack_policy p < 4
policy_small policies.Normal = omega arith
policy_small policies.NoAck = omega arith
policy_small policies.NoExplicitAck = omega arith
policy_small policies.BlockAck = omega arith

abbrev pub qos_control_in : ℕ → QosControl
qos_control_in field = record { tid = bits field 0 4; end_of_service_period = bits field 4 1 == 1; ack_policy = policy_of (bits field 5 2); upper = bits field 8 8 }

pub qos_control_back : (q : QosControl) → IsQosControl q → qos_control_in (qos_control q) ≡ q
qos_control_back q fits =
    let e : bit_of q.end_of_service_period < 2 = bit_small q.end_of_service_period in
    let p : ack_policy q.ack_policy < 4 = policy_small q.ack_policy in
    let at0 : bits (qos_control q) 0 4 ≡ q.tid = omega arith in
    let at4 : bits (qos_control q) 4 1 ≡ bit_of q.end_of_service_period = omega arith in
    let at5 : bits (qos_control q) 5 2 ≡ ack_policy q.ack_policy = omega arith in
    let at8 : bits (qos_control q) 8 8 ≡ q.upper = omega arith in
    let same4 = bit_is (bits (qos_control q) 4 1) q.end_of_service_period at4 in
    let same5 : policy_of (bits (qos_control q) 5 2) ≡ q.ack_policy = ap policy_of at5 ∙ policy_back q.ack_policy in
    rw (at0, same4, same5, at8) refl

pub qos_controls : IsSpelling 65536 IsQosControl qos_control is_qos_control
qos_controls = record {
  below = λ q fits. omega (arith, bit_small q.end_of_service_period, policy_small q.ack_policy);
  passes = λ q fits. grind (arith, nat_tests, bit_small q.end_of_service_period, policy_small q.ack_policy);
  found = λ field lt e. (qos_control_in field, (grind (arith, nat_tests), omega arith), grind (arith, nat_tests, bit_back (bits field 4 1), policy_number (bits field 5 2), e));
  one = λ v w fv fw e. sym (qos_control_back v fv) ∙ ap qos_control_in e ∙ qos_control_back w fw;
}

-- ---- the Block Ack Parameter Set

abbrev block_policy_of : Bool → BlockAckPolicy
block_policy_of false = block_policies.Delayed
block_policy_of true = block_policies.Immediate

block_policy_is : (n : ℕ) (p : BlockAckPolicy) → n ≡ block_ack_policy p → block_policy_of (n == 1) ≡ p
block_policy_is n block_policies.Delayed e = rw e refl
block_policy_is n block_policies.Immediate e = rw e refl

block_policy_number : (n : ℕ) → n < 2 → block_ack_policy (block_policy_of (n == 1)) ≡ n
block_policy_number zero lt = refl
block_policy_number (suc zero) lt = refl
block_policy_number (suc (suc n)) lt = absurd (omega arith)

block_policy_small : (p : BlockAckPolicy) → block_ack_policy p < 2
block_policy_small block_policies.Delayed = omega arith
block_policy_small block_policies.Immediate = omega arith

abbrev pub block_ack_parameters_in : ℕ → BlockAckParameters
block_ack_parameters_in field = record { amsdu_supported = bits field 0 1 == 1; policy = block_policy_of (bits field 1 1 == 1); tid = bits field 2 4; buffer_size = bits field 6 10 }

pub block_ack_parameters_back : (p : BlockAckParameters) → IsBlockAckParameters p → block_ack_parameters_in (block_ack_parameters p) ≡ p
block_ack_parameters_back p fits =
    let a : bit_of p.amsdu_supported < 2 = bit_small p.amsdu_supported in
    let b : block_ack_policy p.policy < 2 = block_policy_small p.policy in
    let at0 : bits (block_ack_parameters p) 0 1 ≡ bit_of p.amsdu_supported = omega arith in
    let at1 : bits (block_ack_parameters p) 1 1 ≡ block_ack_policy p.policy = omega arith in
    let at2 : bits (block_ack_parameters p) 2 4 ≡ p.tid = omega arith in
    let at6 : bits (block_ack_parameters p) 6 10 ≡ p.buffer_size = omega arith in
    let same0 = bit_is (bits (block_ack_parameters p) 0 1) p.amsdu_supported at0 in
    let same1 = block_policy_is (bits (block_ack_parameters p) 1 1) p.policy at1 in
    rw (same0, same1, at2, at6) refl

pub block_ack_parameter_sets : IsSpelling 65536 IsBlockAckParameters block_ack_parameters are_block_ack_parameters
block_ack_parameter_sets = record {
  below = λ p fits. omega (arith, bit_small p.amsdu_supported, block_policy_small p.policy);
  passes = λ p fits. grind (arith, nat_tests, bit_small p.amsdu_supported, block_policy_small p.policy);
  found = λ field lt e. (block_ack_parameters_in field, (grind (arith, nat_tests), omega arith), grind (arith, nat_tests, bit_back (bits field 0 1), block_policy_number (bits field 1 1), e));
  one = λ v w fv fw e. sym (block_ack_parameters_back v fv) ∙ ap block_ack_parameters_in e ∙ block_ack_parameters_back w fw;
}

-- ---- the DELBA Parameter Set

abbrev pub delba_parameters_in : ℕ → DelbaParameters
delba_parameters_in field = record { initiator = bits field 11 1 == 1; tid = bits field 12 4 }

pub delba_parameters_back : (p : DelbaParameters) → IsDelbaParameters p → delba_parameters_in (delba_parameters p) ≡ p
delba_parameters_back p fits =
    let i : bit_of p.initiator < 2 = bit_small p.initiator in
    let at11 : bits (delba_parameters p) 11 1 ≡ bit_of p.initiator = omega arith in
    let at12 : bits (delba_parameters p) 12 4 ≡ p.tid = omega arith in
    let same11 = bit_is (bits (delba_parameters p) 11 1) p.initiator at11 in
    rw (same11, at12) refl

pub delba_parameter_sets : IsSpelling 65536 IsDelbaParameters delba_parameters are_delba_parameters
delba_parameter_sets = record {
  below = λ p fits. omega (arith, bit_small p.initiator);
  passes = λ p fits. grind (arith, nat_tests, bit_small p.initiator);
  found = λ field lt e. (delba_parameters_in field, grind (arith, nat_tests), grind (arith, nat_tests, bit_back (bits field 11 1), e));
  one = λ v w fv fw e. sym (delba_parameters_back v fv) ∙ ap delba_parameters_in e ∙ delba_parameters_back w fw;
}
