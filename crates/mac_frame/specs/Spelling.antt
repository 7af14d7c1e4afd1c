-- What frames are, and the one spelling of each.
use Rattle.std.specs.Prelude.{◌≡◌, ℕ, ◌+◌, ◌<◌, ◌≤◌, ◌^◌, Bool, true, false, List, [], ◌∷◌, ◌++◌, length}
use Rattle.std.specs.Int.{w16, w64, to_le_bytes}
use Rattle.mac_types.specs.declared.fields.FrameFlags.{FrameFlags}
use Rattle.mac_types.specs.Numbers.{IsWord, IsAddress, IsTid, IsSequenceNumber, sequence_control, block_ack_control}
use Rattle.mac_types.specs.Fields.{flags_octet, IsQosControl, qos_control, IsBlockAckParameters, block_ack_parameters, IsDelbaParameters, delba_parameters}
use Rattle.mac_frame.specs.declared.subtype.Subtype.{Subtype}
use Rattle.mac_frame.specs.declared.subtype.Subtype.TheVariants as subtypes
use Rattle.mac_frame.specs.declared.content.Management.{Management}
use Rattle.mac_frame.specs.declared.content.Management.TheVariants as management
use Rattle.mac_frame.specs.declared.content.Control.{Control}
use Rattle.mac_frame.specs.declared.content.Control.TheVariants as control
use Rattle.mac_frame.specs.declared.content.DataKind.{DataKind}
use Rattle.mac_frame.specs.declared.content.DataKind.TheVariants as kinds
use Rattle.mac_frame.specs.declared.content.Content.{Content}
use Rattle.mac_frame.specs.declared.content.Content.TheVariants as content
use Rattle.mac_frame.specs.Elements.{AreElements}
use Rattle.mac_frame.specs.Kinds.{first_byte}

-- a frame, wherever it is in memory: `tail` is its elements or its data
pub record Frame : Type 0 where
  pub flags : FrameFlags
  pub duration : ℕ
  pub receiver : List ℕ
  pub sender : List ℕ
  pub content : Content
  pub tail : List ℕ

-- ---- the kinds of frames

-- the kind of a management frame; Action frames set up and end block acknowledgement
abbrev pub management_subtype : Management → Subtype
management_subtype (management.AssociationRequest capability interval) = subtypes.AssociationRequest
management_subtype (management.AssociationResponse capability status aid) =
    subtypes.AssociationResponse
management_subtype (management.ReassociationRequest capability interval current) =
    subtypes.ReassociationRequest
management_subtype (management.ReassociationResponse capability status aid) =
    subtypes.ReassociationResponse
management_subtype (management.Disassociation reason) = subtypes.Disassociation
management_subtype (management.Authentication algorithm transaction status) =
    subtypes.Authentication
management_subtype (management.Deauthentication reason) = subtypes.Deauthentication
management_subtype (management.AddbaRequest token parameters timeout start) = subtypes.Action
management_subtype (management.AddbaResponse token status parameters timeout) = subtypes.Action
management_subtype (management.Delba parameters reason) = subtypes.Action

-- the kind of a control frame
abbrev pub control_subtype : Control → Subtype
control_subtype (control.BlockAckReq tid start) = subtypes.BlockAckReq
control_subtype (control.BlockAck tid start bitmap) = subtypes.BlockAck

-- the kind of a data frame
abbrev pub data_subtype : DataKind → Subtype
data_subtype kinds.Data = subtypes.Data
data_subtype kinds.Null = subtypes.Null
data_subtype (kinds.QosData qos) = subtypes.QosData
data_subtype (kinds.QosNull qos) = subtypes.QosNull

-- the kind of a frame, by what it carries
abbrev pub content_subtype : Content → Subtype
content_subtype (content.Management bssid sequence body) = management_subtype body
content_subtype (content.Control body) = control_subtype body
content_subtype (content.Data destination sequence kind) = data_subtype kind

-- To DS is set in data frames only
abbrev pub to_ds : Content → Bool
to_ds (content.Management bssid sequence body) = false
to_ds (content.Control body) = false
to_ds (content.Data destination sequence kind) = true

-- ---- the spelling

-- two bytes, the low one first (9.2.2)
abbrev pub word : ℕ → List ℕ
word n = to_le_bytes w16 n

-- the bodies of management frames: 9.3.3.5 to 9.3.3.9, 9.3.3.12, 9.3.3.13, and of action frames 9.6.5
abbrev pub management_text : Management → List ℕ → List ℕ
management_text (management.AssociationRequest capability interval) tail =
    word capability ++ (word interval ++ tail)
management_text (management.AssociationResponse capability status aid) tail =
    word capability ++ (word status ++ (word aid ++ tail))
management_text (management.ReassociationRequest capability interval current) tail =
    word capability ++ (word interval ++ (current ++ tail))
management_text (management.ReassociationResponse capability status aid) tail =
    word capability ++ (word status ++ (word aid ++ tail))
management_text (management.Disassociation reason) tail = word reason ++ tail
management_text (management.Authentication algorithm transaction status) tail =
    word algorithm ++ (word transaction ++ (word status ++ tail))
management_text (management.Deauthentication reason) tail = word reason ++ tail
management_text (management.AddbaRequest token parameters timeout start) tail =
    3 ∷ 0 ∷ token ∷ (word (block_ack_parameters parameters)
    ++ (word timeout ++ (word (sequence_control start) ++ tail)))
management_text (management.AddbaResponse token status parameters timeout) tail =
    3 ∷ 1 ∷ token
    ∷ (word status ++ (word (block_ack_parameters parameters) ++ (word timeout ++ tail)))
management_text (management.Delba parameters reason) tail =
    3 ∷ 2 ∷ (word (delba_parameters parameters) ++ (word reason ++ tail))

-- 9.3.1.8 and 9.3.1.9, compressed
abbrev pub control_text : Control → List ℕ → List ℕ
control_text (control.BlockAckReq tid start) tail =
    word (block_ack_control tid) ++ (word (sequence_control start) ++ tail)
control_text (control.BlockAck tid start bitmap) tail =
    word (block_ack_control tid)
    ++ (word (sequence_control start) ++ (to_le_bytes w64 bitmap ++ tail))

-- 9.3.2.1
abbrev pub data_text : DataKind → List ℕ → List ℕ
data_text kinds.Data tail = tail
data_text kinds.Null tail = tail
data_text (kinds.QosData qos) tail = word (qos_control qos) ++ tail
data_text (kinds.QosNull qos) tail = word (qos_control qos) ++ tail

-- what follows the first two addresses: address 3 and the sequence control, if any, and the body
abbrev pub content_text : Content → List ℕ → List ℕ
content_text (content.Management bssid sequence body) tail =
    bssid ++ (word (sequence_control sequence) ++ management_text body tail)
content_text (content.Control body) tail = control_text body tail
content_text (content.Data destination sequence kind) tail =
    destination ++ (word (sequence_control sequence) ++ data_text kind tail)

-- the bytes of a frame: its kind, flags, duration and two addresses, and what it carries
abbrev pub spelling : Frame → List ℕ
spelling f =
    first_byte (content_subtype f.content) ∷ flags_octet (to_ds f.content) f.flags
    ∷ (word f.duration ++ (f.receiver ++ (f.sender ++ content_text f.content f.tail)))

-- ---- the grammar

-- the values of a management body, and what follows its fixed fields
abbrev pub IsManagement : Management → List ℕ → Type 0
IsManagement (management.AssociationRequest capability interval) tail =
    IsWord capability × IsWord interval × AreElements tail
IsManagement (management.AssociationResponse capability status aid) tail =
    IsWord capability × IsWord status × IsWord aid × AreElements tail
IsManagement (management.ReassociationRequest capability interval current) tail =
    IsWord capability × IsWord interval × IsAddress current × AreElements tail
IsManagement (management.ReassociationResponse capability status aid) tail =
    IsWord capability × IsWord status × IsWord aid × AreElements tail
IsManagement (management.Disassociation reason) tail = IsWord reason × (tail ≡ [])
IsManagement (management.Authentication algorithm transaction status) tail =
    IsWord algorithm × IsWord transaction × IsWord status × (tail ≡ [])
IsManagement (management.Deauthentication reason) tail = IsWord reason × (tail ≡ [])
IsManagement (management.AddbaRequest token parameters timeout start) tail =
    IsBlockAckParameters parameters × IsWord timeout × IsSequenceNumber start × (tail ≡ [])
IsManagement (management.AddbaResponse token status parameters timeout) tail =
    IsWord status × IsBlockAckParameters parameters × IsWord timeout × (tail ≡ [])
IsManagement (management.Delba parameters reason) tail =
    IsDelbaParameters parameters × IsWord reason × (tail ≡ [])

-- the values of a control body, which nothing follows
abbrev pub IsControl : Control → List ℕ → Type 0
IsControl (control.BlockAckReq tid start) tail = IsTid tid × IsSequenceNumber start × (tail ≡ [])
IsControl (control.BlockAck tid start bitmap) tail =
    IsTid tid × IsSequenceNumber start × (bitmap < 2 ^ 64) × (tail ≡ [])

-- the values of a data body; Null and QoS Null carry no data
abbrev pub IsData : DataKind → List ℕ → Type 0
IsData kinds.Data tail = Unit {0}
IsData kinds.Null tail = tail ≡ []
IsData (kinds.QosData qos) tail = IsQosControl qos
IsData (kinds.QosNull qos) tail = IsQosControl qos × (tail ≡ [])

-- the values of what a frame carries
abbrev pub IsContent : Content → List ℕ → Type 0
IsContent (content.Management bssid sequence body) tail =
    IsAddress bssid × IsSequenceNumber sequence × IsManagement body tail
IsContent (content.Control body) tail = IsControl body tail
IsContent (content.Data destination sequence kind) tail =
    IsAddress destination × IsSequenceNumber sequence × IsData kind tail

-- ---- what the grammar says of the tail alone

-- elements after this many bytes, in a frame of at most 2400
pub record AreElementsAfter (head : ℕ) (tail : List ℕ) : Type 0 where
  pub spelled : AreElements tail
  pub short : head + length tail ≤ 2400

-- what follows a management body: elements, where the kind has them, and otherwise nothing
abbrev pub IsManagementTail : Management → List ℕ → Type 0
IsManagementTail (management.AssociationRequest capability interval) tail =
    AreElementsAfter 28 tail
IsManagementTail (management.AssociationResponse capability status aid) tail =
    AreElementsAfter 30 tail
IsManagementTail (management.ReassociationRequest capability interval current) tail =
    AreElementsAfter 34 tail
IsManagementTail (management.ReassociationResponse capability status aid) tail =
    AreElementsAfter 30 tail
IsManagementTail (management.Disassociation reason) tail = tail ≡ []
IsManagementTail (management.Authentication algorithm transaction status) tail = tail ≡ []
IsManagementTail (management.Deauthentication reason) tail = tail ≡ []
IsManagementTail (management.AddbaRequest token parameters timeout start) tail = tail ≡ []
IsManagementTail (management.AddbaResponse token status parameters timeout) tail = tail ≡ []
IsManagementTail (management.Delba parameters reason) tail = tail ≡ []

-- what follows a data body: data, up to the end of a frame of 2400 bytes, or nothing
abbrev pub IsDataTail : DataKind → List ℕ → Type 0
IsDataTail kinds.Data tail = 24 + length tail ≤ 2400
IsDataTail kinds.Null tail = tail ≡ []
IsDataTail (kinds.QosData qos) tail = 26 + length tail ≤ 2400
IsDataTail (kinds.QosNull qos) tail = tail ≡ []

-- what follows the fixed fields of a frame
abbrev pub IsTail : Content → List ℕ → Type 0
IsTail (content.Management bssid sequence body) tail = IsManagementTail body tail
IsTail (content.Control body) tail = tail ≡ []
IsTail (content.Data destination sequence kind) tail = IsDataTail kind tail

-- ---- the whole grammar

-- a frame of the frame grammar
pub record IsFrame (f : Frame) : Type 0 where
  pub duration : IsWord f.duration
  pub receiver : IsAddress f.receiver
  pub sender : IsAddress f.sender
  pub content : IsContent f.content f.tail
  pub short : length (spelling f) ≤ 2400

-- bytes that spell some frame of the grammar
pub record AreSpelled (bytes : List ℕ) : Type 0 where
  pub frame : Frame
  pub grammar : IsFrame frame
  pub text : bytes ≡ spelling frame
