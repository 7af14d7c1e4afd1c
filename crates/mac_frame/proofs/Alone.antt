-- No other frame has this spelling.
use Rattle.std.proofs.Common.{◌≡◌, ℕ, ◌+◌, ◌*◌, ◌/◌, ◌%◌, ◌^◌, ◌<◌, List, [], ◌∷◌, ◌++◌, length, slice_index, take, drop, Option, Some, None, refl, sym, ap, ◌∙◌, arith}
use Rattle.std.specs.Prelude.{◌==◌, if◌then◌else◌, Result, Ok, Err, IfOk, IfErr, MatchResult}
use Rattle.std.specs.Int.{w64, to_le_bytes, from_le_bytes}
use Rattle.std.proofs.lemmas.List.{drop-drop}
use Rattle.std.proofs.lemmas.Nat.{from_le_bytes-to_le_bytes_8}
use Rattle.mac_types.specs.declared.fields.QosControl.{QosControl}
use Rattle.mac_types.specs.declared.fields.BlockAckParameters.{BlockAckParameters}
use Rattle.mac_types.specs.declared.fields.DelbaParameters.{DelbaParameters}
use Rattle.mac_types.specs.Numbers.{IsWord, IsTid, IsSequenceNumber, sequence_control, block_ack_control}
use Rattle.mac_types.specs.Fields.{flags_octet, IsQosControl, qos_control, IsBlockAckParameters, block_ack_parameters, IsDelbaParameters, delba_parameters}
use Rattle.mac_types.proofs.Reading.{flags_in, flags_back, sequence_number_in, sequence_number_back, sequence_controls, qos_control_in, qos_control_back, qos_controls, block_ack_parameters_in, block_ack_parameters_back, block_ack_parameter_sets, delba_parameters_in, delba_parameters_back, delba_parameter_sets, block_ack_tid_in, block_ack_tid_back, block_ack_controls}
use Rattle.mac_frame.specs.declared.subtype.Subtype.{Subtype}
use Rattle.mac_frame.specs.declared.subtype.Subtype.TheVariants as subtypes
use Rattle.mac_frame.specs.declared.subtype.HeaderKind.{HeaderKind}
use Rattle.mac_frame.specs.declared.subtype.HeaderKind.TheVariants as headers
use Rattle.mac_frame.specs.declared.content.Management.{Management}
use Rattle.mac_frame.specs.declared.content.Management.TheVariants as management
use Rattle.mac_frame.specs.declared.content.Control.{Control}
use Rattle.mac_frame.specs.declared.content.Control.TheVariants as control
use Rattle.mac_frame.specs.declared.content.DataKind.{DataKind}
use Rattle.mac_frame.specs.declared.content.DataKind.TheVariants as kinds
use Rattle.mac_frame.specs.declared.content.Content.{Content}
use Rattle.mac_frame.specs.declared.content.Content.TheVariants as content
use Rattle.mac_frame.specs.declared.fault.Fault.{Fault}
use Rattle.mac_frame.specs.declared.fault.FrameFault.{FrameFault}
use Rattle.mac_frame.specs.declared.fault.FrameFault.TheVariants as answers
use Rattle.mac_frame.specs.Kinds.{subtype_of, header_of}
use Rattle.mac_frame.specs.Faults.{word_at, first_fault}
use Rattle.mac_frame.specs.Reading.{IsFault}
use Rattle.mac_frame.specs.Spelling.{Frame, IsFrame, IsManagement, IsControl, IsContent, spelling, management_text, management_subtype, control_text, control_subtype, content_text, content_subtype, to_ds}
use Rattle.mac_frame.proofs.Again.{six, fault_free, kind_is, past_addresses, management_header, control_header}

both : {A B C : Type 0} (g : A → B → C) {a c : A} {b d : B} → a ≡ c → b ≡ d → g a b ≡ g c d
both g {c = c} {b = b} e f = ap (λ x. g x b) e ∙ ap (g c) f

all_three : {A B C D : Type 0} (g : A → B → C → D) {a d : A} {b e : B} {c f : C} → a ≡ d → b ≡ e → c ≡ f → g a b c ≡ g d e f
all_three g {d = d} {b = b} {e = e} {c = c} p q r = ap (λ x. g x b c) p ∙ ap (λ x. g d x c) q ∙ ap (g d e) r

word_back : (x : ℕ) → IsWord x → x % 256 + 256 * (x / 256 % 256) ≡ x
word_back x lt = omega arith

-- a field of parts, read from the two bytes that spell it
sequence_back : (s : ℕ) → IsSequenceNumber s → sequence_number_in (sequence_control s % 256 + 256 * (sequence_control s / 256 % 256)) ≡ s
sequence_back s fits = ap sequence_number_in (word_back (sequence_control s) (sequence_controls.below s fits)) ∙ sequence_number_back s fits

-- ---- a frame by the positions of its fields

abbrev management_in : Subtype → List ℕ → Management × List ℕ
management_in subtypes.AssociationRequest t = (management.AssociationRequest (word_at t 0) (word_at t 2), drop 4 t)
management_in subtypes.AssociationResponse t = (management.AssociationResponse (word_at t 0) (word_at t 2) (word_at t 4), drop 6 t)
management_in subtypes.ReassociationRequest t = (management.ReassociationRequest (word_at t 0) (word_at t 2) (take 6 (drop 4 t)), drop 10 t)
management_in subtypes.ReassociationResponse t = (management.ReassociationResponse (word_at t 0) (word_at t 2) (word_at t 4), drop 6 t)
management_in subtypes.Disassociation t = (management.Disassociation (word_at t 0), drop 2 t)
management_in subtypes.Authentication t = (management.Authentication (word_at t 0) (word_at t 2) (word_at t 4), drop 6 t)
management_in subtypes.Deauthentication t = (management.Deauthentication (word_at t 0), drop 2 t)
management_in _ t =
    if slice_index t 1 == 0 then (management.AddbaRequest (slice_index t 2) (block_ack_parameters_in (word_at t 3)) (word_at t 5) (sequence_number_in (word_at t 7)), drop 9 t)
    else (if slice_index t 1 == 1 then (management.AddbaResponse (slice_index t 2) (word_at t 3) (block_ack_parameters_in (word_at t 5)) (word_at t 7), drop 9 t)
    else (management.Delba (delba_parameters_in (word_at t 2)) (word_at t 4), drop 6 t))

abbrev control_in : Subtype → List ℕ → Control × List ℕ
control_in subtypes.BlockAck t = (control.BlockAck (block_ack_tid_in (word_at t 0)) (sequence_number_in (word_at t 2)) (from_le_bytes w64 (drop 4 t)), drop 12 t)
control_in _ t = (control.BlockAckReq (block_ack_tid_in (word_at t 0)) (sequence_number_in (word_at t 2)), drop 4 t)

abbrev data_in : Subtype → List ℕ → DataKind × List ℕ
data_in subtypes.Null t = (kinds.Null, t)
data_in subtypes.QosData t = (kinds.QosData (qos_control_in (word_at t 0)), drop 2 t)
data_in subtypes.QosNull t = (kinds.QosNull (qos_control_in (word_at t 0)), drop 2 t)
data_in _ t = (kinds.Data, t)

abbrev content_in : HeaderKind → Subtype → List ℕ → Content × List ℕ
content_in headers.Management k t = (content.Management (take 6 t) (sequence_number_in (word_at t 6)) (management_in k (drop 8 t)).0, (management_in k (drop 8 t)).1)
content_in headers.Control k t = (content.Control (control_in k t).0, (control_in k t).1)
content_in headers.Data k t = (content.Data (take 6 t) (sequence_number_in (word_at t 6)) (data_in k (drop 8 t)).0, (data_in k (drop 8 t)).1)
content_in headers.QosData k t = (content.Data (take 6 t) (sequence_number_in (word_at t 6)) (data_in k (drop 8 t)).0, (data_in k (drop 8 t)).1)

abbrev content_by : Option Subtype → List ℕ → Content × List ℕ
content_by None t = (content.Control (control.BlockAckReq 0 0), [])
content_by (Some k) t = content_in (header_of k) k t

abbrev frame_with : List ℕ → Content × List ℕ → Frame
frame_with b x = record { flags = flags_in (slice_index b 1); duration = word_at b 2; receiver = take 6 (drop 4 b); sender = take 6 (drop 10 b); content = x.0; tail = x.1 }

abbrev frame_in : List ℕ → Frame
frame_in b = frame_with b (content_by (subtype_of (slice_index b 0)) (drop 16 b))

-- ---- the spelling of a frame has its fields there

parameters_back : (p : BlockAckParameters) → IsBlockAckParameters p → block_ack_parameters_in (block_ack_parameters p % 256 + 256 * (block_ack_parameters p / 256 % 256)) ≡ p
parameters_back p fits = ap block_ack_parameters_in (word_back (block_ack_parameters p) (block_ack_parameter_sets.below p fits)) ∙ block_ack_parameters_back p fits

delba_back : (p : DelbaParameters) → IsDelbaParameters p → delba_parameters_in (delba_parameters p % 256 + 256 * (delba_parameters p / 256 % 256)) ≡ p
delba_back p fits = ap delba_parameters_in (word_back (delba_parameters p) (delba_parameter_sets.below p fits)) ∙ delba_parameters_back p fits

qos_back : (q : QosControl) → IsQosControl q → qos_control_in (qos_control q % 256 + 256 * (qos_control q / 256 % 256)) ≡ q
qos_back q fits = ap qos_control_in (word_back (qos_control q) (qos_controls.below q fits)) ∙ qos_control_back q fits

tid_back : (t : ℕ) → IsTid t → block_ack_tid_in (block_ack_control t % 256 + 256 * (block_ack_control t / 256 % 256)) ≡ t
tid_back t fits = ap block_ack_tid_in (word_back (block_ack_control t) (block_ack_controls.below t fits)) ∙ block_ack_tid_back t fits

management_back : (m : Management) (tail : List ℕ) → IsManagement m tail → management_in (management_subtype m) (management_text m tail) ≡ (m, tail)
management_back (management.AssociationRequest c i) tail fits = rw (word_back c fits.0, word_back i fits.1) refl
management_back (management.AssociationResponse c s a) tail fits = rw (word_back c fits.0, word_back s fits.1, word_back a fits.2) refl
management_back (management.ReassociationRequest c i (a0 ∷ a1 ∷ a2 ∷ a3 ∷ a4 ∷ a5 ∷ [])) tail fits = rw (word_back c fits.0, word_back i fits.1) refl
management_back (management.ReassociationRequest c i _) tail fits = absurd (omega (arith, fits.2))
management_back (management.ReassociationResponse c s a) tail fits = rw (word_back c fits.0, word_back s fits.1, word_back a fits.2) refl
management_back (management.Disassociation r) tail fits = rw (word_back r fits.0) refl
management_back (management.Authentication a t s) tail fits = rw (word_back a fits.0, word_back t fits.1, word_back s fits.2) refl
management_back (management.Deauthentication r) tail fits = rw (word_back r fits.0) refl
management_back (management.AddbaRequest k p t s) tail fits =
    all_three (λ x y z. (management.AddbaRequest k x y z, tail)) (parameters_back p fits.0) (word_back t fits.1) (sequence_back s fits.2)
management_back (management.AddbaResponse k s p t) tail fits =
    all_three (λ x y z. (management.AddbaResponse k x y z, tail)) (word_back s fits.0) (parameters_back p fits.1) (word_back t fits.2)
management_back (management.Delba p r) tail fits =
    both (λ x y. (management.Delba x y, tail)) (delba_back p fits.0) (word_back r fits.1)

bitmap_back : (m : ℕ) (tail : List ℕ) → m < 2 ^ 64 → from_le_bytes w64 (to_le_bytes w64 m ++ tail) ≡ m
bitmap_back m tail lt = from_le_bytes-to_le_bytes_8 m lt

control_back : (m : Control) (tail : List ℕ) → IsControl m tail → control_in (control_subtype m) (control_text m tail) ≡ (m, tail)
control_back (control.BlockAckReq t s) tail fits = both (λ x y. (control.BlockAckReq x y, tail)) (tid_back t fits.0) (sequence_back s fits.1)
control_back (control.BlockAck t s m) tail fits =
    all_three (λ x y z. (control.BlockAck x y z, tail)) (tid_back t fits.0) (sequence_back s fits.1) (bitmap_back m tail fits.2)

content_back : (x : Content) (tail : List ℕ) → IsContent x tail → content_in (header_of (content_subtype x)) (content_subtype x) (content_text x tail) ≡ (x, tail)
content_back (content.Management (a0 ∷ a1 ∷ a2 ∷ a3 ∷ a4 ∷ a5 ∷ []) s m) tail fits =
    rw (management_header m) (rw (sequence_back s fits.1, management_back m tail fits.2) refl)
content_back (content.Management _ s m) tail fits = absurd (omega (arith, fits.0))
content_back (content.Control m) tail fits = rw (control_header m) (rw (control_back m tail fits) refl)
content_back (content.Data (a0 ∷ a1 ∷ a2 ∷ a3 ∷ a4 ∷ a5 ∷ []) s kinds.Data) tail fits = rw (sequence_back s fits.1) refl
content_back (content.Data (a0 ∷ a1 ∷ a2 ∷ a3 ∷ a4 ∷ a5 ∷ []) s kinds.Null) tail fits = rw (sequence_back s fits.1) refl
content_back (content.Data (a0 ∷ a1 ∷ a2 ∷ a3 ∷ a4 ∷ a5 ∷ []) s (kinds.QosData q)) tail fits =
    both (λ x y. (content.Data (a0 ∷ a1 ∷ a2 ∷ a3 ∷ a4 ∷ a5 ∷ []) x (kinds.QosData y), tail)) (sequence_back s fits.1) (qos_back q fits.2)
content_back (content.Data (a0 ∷ a1 ∷ a2 ∷ a3 ∷ a4 ∷ a5 ∷ []) s (kinds.QosNull q)) tail fits =
    both (λ x y. (content.Data (a0 ∷ a1 ∷ a2 ∷ a3 ∷ a4 ∷ a5 ∷ []) x (kinds.QosNull y), tail)) (sequence_back s fits.1) (qos_back q fits.2.0)
content_back (content.Data _ s m) tail fits = absurd (omega (arith, fits.0))

six_first : (xs rest : List ℕ) → length xs ≡ 6 → take 6 (xs ++ rest) ≡ xs
six_first (a0 ∷ a1 ∷ a2 ∷ a3 ∷ a4 ∷ a5 ∷ []) rest e = refl
six_first _ rest e = absurd (omega (arith, e))

frame_back : (f : Frame) → IsFrame f → frame_in (spelling f) ≡ f
frame_back f fits =
    let t = content_text f.content f.tail in
    let k : subtype_of (slice_index (spelling f) 0) ≡ Some (content_subtype f.content) = kind_is (content_subtype f.content) in
    let c : content_by (subtype_of (slice_index (spelling f) 0)) (drop 16 (spelling f)) ≡ (f.content, f.tail) =
    ap (λ o. content_by o (drop 16 (spelling f))) k ∙ ap (λ (x : List ℕ). content_by (Some (content_subtype f.content)) x) (past_addresses f fits.receiver fits.sender) ∙ content_back f.content f.tail fits.content in
    let r : take 6 (drop 4 (spelling f)) ≡ f.receiver = six_first f.receiver (f.sender ++ t) fits.receiver in
    let p : drop 10 (spelling f) ≡ f.sender ++ t = sym (drop-drop 6 4 (spelling f)) ∙ six f.receiver (f.sender ++ t) fits.receiver in
    let s : take 6 (drop 10 (spelling f)) ≡ f.sender = ap (λ (x : List ℕ). take 6 x) p ∙ six_first f.sender t fits.sender in
    let d : word_at (spelling f) 2 ≡ f.duration = word_back f.duration fits.duration in
    let o : flags_in (flags_octet (to_ds f.content) f.flags) ≡ f.flags = flags_back (to_ds f.content) f.flags in
    ap (λ x. frame_with (spelling f) x) c ∙ rw (o, d, r, s) refl

-- the law
pub alone : (f g : Frame) → IsFrame f → IsFrame g → spelling f ≡ spelling g → f ≡ g
alone f g p q e = sym (frame_back f p) ∙ ap frame_in e ∙ frame_back g q

abbrev some_fault : Fault → Option Fault
some_fault x = Some x

differ : (x : Fault) → some_fault x ≡ None → ⊥
differ x e = cc

-- ---- what reading returns for the spelling of a frame

pub only_this : (r : Result Frame FrameFault) (b : List ℕ) → IfOk r (λ f. IsFrame f × (b ≡ spelling f) × (first_fault b ≡ None)) → IfErr r (λ e. IsFault e (first_fault b))
    → (f : Frame) → IsFrame f → b ≡ spelling f → MatchResult r (λ g. g ≡ f) (λ e. e ≡ answers.Memory)
only_this (Ok g) b found fault f fits e = alone g f found.0 fits (sym found.1 ∙ e)
only_this (Err answers.Memory) b found fault f fits e = refl
only_this (Err (answers.Fault x)) b found fault f fits e =
    let none : first_fault b ≡ None = ap first_fault e ∙ fault_free f fits in
    absurd (differ x (sym fault ∙ none))
