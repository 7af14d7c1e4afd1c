-- The spelling of a frame has no fault.
use Rattle.std.proofs.Common.{◌≡◌, ℕ, ◌+◌, ◌*◌, ◌/◌, ◌%◌, ◌≤◌, true, false, List, [], ◌∷◌, ◌++◌, length, get_or, slice_index, drop, Some, None, refl, sym, ap, ◌∙◌, arith}
use Rattle.std.specs.Prelude.{nat_lt}
use Rattle.std.proofs.lemmas.Bool.{le-ltb}
use Rattle.std.proofs.lemmas.List.{get_or-drop, drop-drop, length-append}
use Rattle.mac_types.specs.Numbers.{IsWord, IsAddress, IsSequenceNumber, sequence_control, is_sequence_control, block_ack_control}
use Rattle.mac_types.specs.Fields.{are_flags, qos_control, block_ack_parameters, delba_parameters}
use Rattle.mac_types.proofs.Reading.{flags, sequence_controls, qos_controls, block_ack_parameter_sets, delba_parameter_sets, block_ack_controls}
use Rattle.mac_frame.specs.declared.subtype.Subtype.{Subtype}
use Rattle.mac_frame.specs.declared.subtype.Subtype.TheVariants as subtypes
use Rattle.mac_frame.specs.declared.subtype.HeaderKind.TheVariants as headers
use Rattle.mac_frame.specs.declared.content.Management.{Management}
use Rattle.mac_frame.specs.declared.content.Management.TheVariants as management
use Rattle.mac_frame.specs.declared.content.Control.{Control}
use Rattle.mac_frame.specs.declared.content.Control.TheVariants as control
use Rattle.mac_frame.specs.declared.content.DataKind.{DataKind}
use Rattle.mac_frame.specs.declared.content.DataKind.TheVariants as kinds
use Rattle.mac_frame.specs.declared.content.Content.{Content}
use Rattle.mac_frame.specs.declared.content.Content.TheVariants as content
use Rattle.mac_frame.specs.Kinds.{subtype_of, first_byte, header_of, header_length}
use Rattle.mac_frame.specs.Faults.{word_at, first, body_tests, header_tests, first_fault}
use Rattle.mac_frame.specs.Spelling.{Frame, IsFrame, IsManagement, IsControl, IsData, IsContent, spelling, management_text, management_subtype, control_text, control_subtype, data_text, data_subtype, content_text, content_subtype, to_ds}
use Rattle.mac_frame.proofs.Cutting.{not_cut}
use Rattle.mac_frame.proofs.Order.{first_after, at_header}

-- ---- fields after others

byte_there : (b t : List ℕ) (n i : ℕ) → drop n b ≡ t → slice_index b (n + i) ≡ slice_index t i
byte_there b t n i e = sym (get_or-drop n b i 0) ∙ ap (λ (x : List ℕ). get_or x i 0) e

word_there : (b t : List ℕ) (n i x : ℕ) → drop n b ≡ t → word_at t i ≡ x % 256 + 256 * (x / 256 % 256) → IsWord x → word_at b (n + i) ≡ x
word_there b t n i x e spelled fits =
    let high : n + i + 1 ≡ n + (i + 1) = omega arith in
    let moved : word_at b (n + i) ≡ word_at t i = rw (high, byte_there b t n i e, byte_there b t n (i + 1) e) refl in
    moved ∙ spelled ∙ omega arith

tail_there : (b t : List ℕ) (n i : ℕ) → drop n b ≡ t → drop (n + i) b ≡ drop i t
tail_there b t n i e = sym (drop-drop i n b) ∙ ap (λ (x : List ℕ). drop i x) e

not_below : (m n : ℕ) → n ≤ m → nat_lt m n ≡ false
not_below m n le = le-ltb m n le

empty : (tail : List ℕ) → tail ≡ [] → length tail ≡ 0
empty tail e = ap (λ (x : List ℕ). length x) e

-- a sequence control, if it is spelled there
number_there : (b t : List ℕ) (n i s : ℕ) → drop n b ≡ t → word_at t i ≡ sequence_control s % 256 + 256 * (sequence_control s / 256 % 256) → IsSequenceNumber s → is_sequence_control (word_at b (n + i)) ≡ true
number_there b t n i s e spelled fits =
    ap is_sequence_control (word_there b t n i (sequence_control s) e spelled (sequence_controls.below s fits)) ∙ sequence_controls.passes s fits

-- ---- bodies

management_free : (m : Management) (b tail : List ℕ) → drop 24 b ≡ management_text m tail → length b ≡ 24 + length (management_text m tail) → IsManagement m tail → first (body_tests (management_subtype m) b) ≡ None
management_free (management.AssociationRequest c i) b tail d l fits =
    rw (not_below (length b) 28 (omega (arith, l)), tail_there b _ 24 4 d, not_cut tail fits.2) refl
management_free (management.AssociationResponse c s a) b tail d l fits =
    rw (not_below (length b) 30 (omega (arith, l)), tail_there b _ 24 6 d, not_cut tail fits.3) refl
management_free (management.ReassociationRequest c i (a0 ∷ a1 ∷ a2 ∷ a3 ∷ a4 ∷ a5 ∷ [])) b tail d l fits =
    rw (not_below (length b) 34 (omega (arith, l)), tail_there b _ 24 10 d, not_cut tail fits.3) refl
management_free (management.ReassociationRequest c i _) b tail d l fits = absurd (omega (arith, fits.2))
management_free (management.ReassociationResponse c s a) b tail d l fits =
    rw (not_below (length b) 30 (omega (arith, l)), tail_there b _ 24 6 d, not_cut tail fits.3) refl
management_free (management.Disassociation r) b tail d l fits =
    let n : length b ≡ 26 = omega (arith, l, empty tail fits.1) in rw n refl
management_free (management.Authentication a t s) b tail d l fits =
    let n : length b ≡ 30 = omega (arith, l, empty tail fits.3) in rw n refl
management_free (management.Deauthentication r) b tail d l fits =
    let n : length b ≡ 26 = omega (arith, l, empty tail fits.1) in rw n refl
management_free (management.AddbaRequest k p t s) b tail d l fits =
    let n : length b ≡ 33 = omega (arith, l, empty tail fits.3) in
    rw (n, byte_there b _ 24 0 d, byte_there b _ 24 1 d, word_there b _ 24 3 (block_ack_parameters p) d refl (block_ack_parameter_sets.below p fits.0), block_ack_parameter_sets.passes p fits.0, number_there b _ 24 7 s d refl fits.2) refl
management_free (management.AddbaResponse k s p t) b tail d l fits =
    let n : length b ≡ 33 = omega (arith, l, empty tail fits.3) in
    rw (n, byte_there b _ 24 0 d, byte_there b _ 24 1 d, word_there b _ 24 5 (block_ack_parameters p) d refl (block_ack_parameter_sets.below p fits.1), block_ack_parameter_sets.passes p fits.1) refl
management_free (management.Delba p r) b tail d l fits =
    let n : length b ≡ 30 = omega (arith, l, empty tail fits.2) in
    rw (n, byte_there b _ 24 0 d, byte_there b _ 24 1 d, word_there b _ 24 2 (delba_parameters p) d refl (delba_parameter_sets.below p fits.0), delba_parameter_sets.passes p fits.0) refl

control_free : (m : Control) (b tail : List ℕ) → drop 16 b ≡ control_text m tail → length b ≡ 16 + length (control_text m tail) → IsControl m tail → first (body_tests (control_subtype m) b) ≡ None
control_free (control.BlockAckReq t s) b tail d l fits =
    let n : length b ≡ 20 = omega (arith, l, empty tail fits.2) in
    rw (n, word_there b _ 16 0 (block_ack_control t) d refl (block_ack_controls.below t fits.0), block_ack_controls.passes t fits.0, number_there b _ 16 2 s d refl fits.1) refl
control_free (control.BlockAck t s m) b tail d l fits =
    let n : length b ≡ 28 = omega (arith, l, empty tail fits.3) in
    rw (n, word_there b _ 16 0 (block_ack_control t) d refl (block_ack_controls.below t fits.0), block_ack_controls.passes t fits.0, number_there b _ 16 2 s d refl fits.1) refl

data_free : (m : DataKind) (b tail : List ℕ) → length b ≡ 24 + length (data_text m tail) → IsData m tail → first (body_tests (data_subtype m) b) ≡ None
data_free kinds.Data b tail l fits = refl
data_free kinds.Null b tail l fits = let n : length b ≡ 24 = omega (arith, l, empty tail fits) in rw n refl
data_free (kinds.QosData q) b tail l fits = refl
data_free (kinds.QosNull q) b tail l fits = let n : length b ≡ 26 = omega (arith, l, empty tail fits.1) in rw n refl

-- ---- headers

pub management_header : (m : Management) → header_of (management_subtype m) ≡ headers.Management
management_header (management.AssociationRequest c i) = refl
management_header (management.AssociationResponse c s a) = refl
management_header (management.ReassociationRequest c i a) = refl
management_header (management.ReassociationResponse c s a) = refl
management_header (management.Disassociation r) = refl
management_header (management.Authentication a t s) = refl
management_header (management.Deauthentication r) = refl
management_header (management.AddbaRequest k p t s) = refl
management_header (management.AddbaResponse k s p t) = refl
management_header (management.Delba p r) = refl

pub control_header : (m : Control) → header_of (control_subtype m) ≡ headers.Control
control_header (control.BlockAckReq t s) = refl
control_header (control.BlockAck t s m) = refl

version_is : (k : Subtype) → first_byte k % 4 ≡ 0
version_is subtypes.AssociationRequest = refl
version_is subtypes.AssociationResponse = refl
version_is subtypes.ReassociationRequest = refl
version_is subtypes.ReassociationResponse = refl
version_is subtypes.Disassociation = refl
version_is subtypes.Authentication = refl
version_is subtypes.Deauthentication = refl
version_is subtypes.Action = refl
version_is subtypes.BlockAckReq = refl
version_is subtypes.BlockAck = refl
version_is subtypes.Data = refl
version_is subtypes.Null = refl
version_is subtypes.QosData = refl
version_is subtypes.QosNull = refl

pub kind_is : (k : Subtype) → subtype_of (first_byte k) ≡ Some k
kind_is subtypes.AssociationRequest = refl
kind_is subtypes.AssociationResponse = refl
kind_is subtypes.ReassociationRequest = refl
kind_is subtypes.ReassociationResponse = refl
kind_is subtypes.Disassociation = refl
kind_is subtypes.Authentication = refl
kind_is subtypes.Deauthentication = refl
kind_is subtypes.Action = refl
kind_is subtypes.BlockAckReq = refl
kind_is subtypes.BlockAck = refl
kind_is subtypes.Data = refl
kind_is subtypes.Null = refl
kind_is subtypes.QosData = refl
kind_is subtypes.QosNull = refl

-- the header and the body, if the first sixteen bytes are known
content_free : (x : Content) (b tail : List ℕ) → drop 16 b ≡ content_text x tail → length b ≡ 16 + length (content_text x tail) → are_flags (to_ds x) (slice_index b 1) ≡ true → IsContent x tail
    → (header_length (header_of (content_subtype x)) ≤ length b) × (first (header_tests (header_of (content_subtype x)) b) ≡ None) × (first (body_tests (content_subtype x) b) ≡ None)
content_free (content.Management (a0 ∷ a1 ∷ a2 ∷ a3 ∷ a4 ∷ a5 ∷ []) s m) b tail d l flags fits =
    let w = number_there b _ 16 6 s d refl fits.1 in (
      rw (management_header m) (omega (arith, l)),
      rw (management_header m) (rw (flags, w) refl),
      management_free m b tail (tail_there b _ 16 8 d) (omega (arith, l)) fits.2,
    )
content_free (content.Management _ s m) b tail d l flags fits = absurd (omega (arith, fits.0))
content_free (content.Control m) b tail d l flags fits =
    (rw (control_header m) (omega (arith, l)), rw (control_header m) (rw flags refl), control_free m b tail d l fits)
content_free (content.Data (a0 ∷ a1 ∷ a2 ∷ a3 ∷ a4 ∷ a5 ∷ []) s kinds.Data) b tail d l flags fits =
    let w = number_there b _ 16 6 s d refl fits.1 in
    (omega (arith, l), rw (flags, w) refl, data_free kinds.Data b tail (omega (arith, l)) fits.2)
content_free (content.Data (a0 ∷ a1 ∷ a2 ∷ a3 ∷ a4 ∷ a5 ∷ []) s kinds.Null) b tail d l flags fits =
    let w = number_there b _ 16 6 s d refl fits.1 in
    (omega (arith, l), rw (flags, w) refl, data_free kinds.Null b tail (omega (arith, l)) fits.2)
content_free (content.Data (a0 ∷ a1 ∷ a2 ∷ a3 ∷ a4 ∷ a5 ∷ []) s (kinds.QosData q)) b tail d l flags fits =
    let w = number_there b _ 16 6 s d refl fits.1 in
    let v = word_there b _ 16 8 (qos_control q) d refl (qos_controls.below q fits.2) in
    (omega (arith, l), rw (flags, w, v, qos_controls.passes q fits.2) refl, data_free (kinds.QosData q) b tail (omega (arith, l)) fits.2)
content_free (content.Data (a0 ∷ a1 ∷ a2 ∷ a3 ∷ a4 ∷ a5 ∷ []) s (kinds.QosNull q)) b tail d l flags fits =
    let w = number_there b _ 16 6 s d refl fits.1 in
    let v = word_there b _ 16 8 (qos_control q) d refl (qos_controls.below q fits.2.0) in
    (omega (arith, l), rw (flags, w, v, qos_controls.passes q fits.2.0) refl, data_free (kinds.QosNull q) b tail (omega (arith, l)) fits.2)
content_free (content.Data _ s m) b tail d l flags fits = absurd (omega (arith, fits.0))

pub six : (xs rest : List ℕ) → length xs ≡ 6 → drop 6 (xs ++ rest) ≡ rest
six (a0 ∷ a1 ∷ a2 ∷ a3 ∷ a4 ∷ a5 ∷ []) rest e = refl
six _ rest e = absurd (omega (arith, e))

-- what follows the first two addresses
pub past_addresses : (f : Frame) → IsAddress f.receiver → IsAddress f.sender → drop 16 (spelling f) ≡ content_text f.content f.tail
past_addresses f r s =
    let one : drop 6 (f.receiver ++ (f.sender ++ content_text f.content f.tail)) ≡ f.sender ++ content_text f.content f.tail = six f.receiver (f.sender ++ content_text f.content f.tail) r in
    tail_there (spelling f) (f.sender ++ content_text f.content f.tail) 10 6 (sym (drop-drop 6 4 (spelling f)) ∙ one) ∙ six f.sender (content_text f.content f.tail) s

long_as : (f : Frame) → IsAddress f.receiver → IsAddress f.sender → length (spelling f) ≡ 16 + length (content_text f.content f.tail)
long_as f r s =
    let one = length-append f.receiver (f.sender ++ content_text f.content f.tail) in
    let two = length-append f.sender (content_text f.content f.tail) in
    omega (arith, one, two, r, s)

pub fault_free : (f : Frame) → IsFrame f → first_fault (spelling f) ≡ None
fault_free f fits =
    let k = content_subtype f.content in
    let l = long_as f fits.receiver fits.sender in
    let c = content_free f.content (spelling f) f.tail (past_addresses f fits.receiver fits.sender) l ((flags (to_ds f.content)).passes f.flags tt) fits.content in
    at_header (spelling f) k fits.short (omega (arith, l)) (version_is k) (kind_is k) c.0 ∙ first_after (header_tests (header_of k) (spelling f)) (body_tests k (spelling f)) c.1 ∙ c.2
