-- What can be wrong with bytes: a list of tests, whose first fault counts.
use Rattle.std.specs.Prelude.{ℕ, ◌+◌, ◌*◌, ◌%◌, Bool, true, false, not, ◌&&◌, List, [], ◌∷◌, ◌++◌, length, drop, slice_index, Option, Some, None, nat_lt, ◌==◌, if◌then◌else◌}
use Rattle.mac_types.specs.Numbers.{is_sequence_control, is_block_ack_control}
use Rattle.mac_types.specs.Fields.{are_flags, is_qos_control, are_block_ack_parameters, are_delba_parameters}
use Rattle.mac_frame.specs.declared.fault.Fault.{Fault}
use Rattle.mac_frame.specs.declared.fault.Fault.TheVariants.{TooShort, WrongVersion, Unsupported, ReservedUse, ElementCut, BodyLength}
use Rattle.mac_frame.specs.declared.subtype.HeaderKind.{HeaderKind}
use Rattle.mac_frame.specs.declared.subtype.HeaderKind.TheVariants as headers
use Rattle.mac_frame.specs.declared.subtype.Subtype.{Subtype}
use Rattle.mac_frame.specs.declared.subtype.Subtype.TheVariants.{AssociationRequest, AssociationResponse, ReassociationRequest, ReassociationResponse, Disassociation, Authentication, Deauthentication, Action, BlockAckReq, BlockAck, Data, Null, QosData, QosNull}
use Rattle.mac_frame.specs.Elements.{is_cut}
use Rattle.mac_frame.specs.Kinds.{subtype_of, header_of, header_length}

-- the number of two bytes, the low one first
abbrev pub word_at : List ℕ → ℕ → ℕ
word_at b i = slice_index b i + 256 * slice_index b (i + 1)

-- whether a test finds a fault, and the fault
abbrev pub Test : Type 0
Test = Bool × Fault

-- the fault of the first test that finds one
abbrev pub first : List Test → Option Fault
first [] = None
first (test ∷ tests) = if test.0 then Some test.1 else first tests

-- ---- in the header: the flags of byte 1, the sequence control, the QoS control

-- the tests of a header, by kind
abbrev pub header_tests : HeaderKind → List ℕ → List Test
header_tests headers.Management b =
    (not (are_flags false (slice_index b 1)), ReservedUse)
    ∷ (not (is_sequence_control (word_at b 22)), ReservedUse) ∷ []
header_tests headers.Control b = (not (are_flags false (slice_index b 1)), ReservedUse) ∷ []
header_tests headers.Data b =
    (not (are_flags true (slice_index b 1)), ReservedUse)
    ∷ (not (is_sequence_control (word_at b 22)), ReservedUse) ∷ []
header_tests headers.QosData b =
    (not (are_flags true (slice_index b 1)), ReservedUse)
    ∷ (not (is_sequence_control (word_at b 22)), ReservedUse)
    ∷ (not (is_qos_control (word_at b 24)), ReservedUse) ∷ []

-- ---- in the body

-- category 3 is block acknowledgement, with the actions 0 ADDBA request, 1 ADDBA response and 2 DELBA (9.4.1.11, 9.6.5)
abbrev pub is_block_ack_action : List ℕ → Bool
is_block_ack_action b = (slice_index b 24 == 3) && nat_lt (slice_index b 25) 3

-- how long an action frame is
abbrev pub action_length : ℕ → ℕ
action_length action = if action == 2 then 30 else 33

-- the fields of an action that may not hold every number: an ADDBA request's parameters and start, an ADDBA
-- response's parameters, a DELBA's parameters
abbrev pub are_action_fields : ℕ → List ℕ → Bool
are_action_fields action b =
    if action == 0
    then are_block_ack_parameters (word_at b 27) && is_sequence_control (word_at b 31)
    else (if action == 1 then are_block_ack_parameters (word_at b 29)
    else are_delba_parameters (word_at b 26))

-- the tests of a body, by the frame's kind
abbrev pub body_tests : Subtype → List ℕ → List Test
body_tests AssociationRequest b =
    (nat_lt (length b) 28, BodyLength) ∷ (is_cut (drop 28 b), ElementCut) ∷ []
body_tests AssociationResponse b =
    (nat_lt (length b) 30, BodyLength) ∷ (is_cut (drop 30 b), ElementCut) ∷ []
body_tests ReassociationRequest b =
    (nat_lt (length b) 34, BodyLength) ∷ (is_cut (drop 34 b), ElementCut) ∷ []
body_tests ReassociationResponse b =
    (nat_lt (length b) 30, BodyLength) ∷ (is_cut (drop 30 b), ElementCut) ∷ []
body_tests Disassociation b = (not (length b == 26), BodyLength) ∷ []
body_tests Authentication b = (not (length b == 30), BodyLength) ∷ []
body_tests Deauthentication b = (not (length b == 26), BodyLength) ∷ []
body_tests Action b =
    (nat_lt (length b) 26, BodyLength)
    ∷ (not (is_block_ack_action b), Unsupported)
    ∷ (not (length b == action_length (slice_index b 25)), BodyLength)
    ∷ (not (are_action_fields (slice_index b 25) b), ReservedUse) ∷ []
body_tests BlockAckReq b =
    (not (length b == 20), BodyLength) ∷ (not (is_block_ack_control (word_at b 16)), ReservedUse)
    ∷ (not (is_sequence_control (word_at b 18)), ReservedUse) ∷ []
body_tests BlockAck b =
    (not (length b == 28), BodyLength) ∷ (not (is_block_ack_control (word_at b 16)), ReservedUse)
    ∷ (not (is_sequence_control (word_at b 18)), ReservedUse) ∷ []
body_tests Data b = []
body_tests Null b = (not (length b == 24), BodyLength) ∷ []
body_tests QosData b = []
body_tests QosNull b = (not (length b == 26), BodyLength) ∷ []

-- ---- all

-- the tests, by the subtype of the first byte
abbrev pub tests_of : Option Subtype → List ℕ → List Test
tests_of None b = (true, Unsupported) ∷ []
tests_of (Some kind) b =
    (nat_lt (length b) (header_length (header_of kind)), TooShort)
    ∷ (header_tests (header_of kind) b ++ body_tests kind b)

-- all tests of the bytes of a frame
abbrev pub tests : List ℕ → List Test
tests b =
    (nat_lt 2400 (length b), BodyLength)
    ∷ (nat_lt (length b) 2, TooShort)
    ∷ (not (slice_index b 0 % 4 == 0), WrongVersion)
    ∷ tests_of (subtype_of (slice_index b 0)) b

-- the first fault of bytes
abbrev pub first_fault : List ℕ → Option Fault
first_fault b = first (tests b)

-- the numbers of the faults
abbrev pub number_of_fault : Fault → ℕ
number_of_fault TooShort = 50
number_of_fault WrongVersion = 51
number_of_fault Unsupported = 52
number_of_fault ReservedUse = 53
number_of_fault ElementCut = 54
number_of_fault BodyLength = 55
