-- What reading returns.
use Rattle.std.specs.Prelude.{◌≡◌, ℕ, Bool, List, ◌++◌, slice_index, length, ◌≤◌, drop, Option, Some, None}
use Rattle.mac_types.specs.declared.fields.FrameFlags.{FrameFlags}
use Rattle.mac_types.specs.declared.fields.QosControl.{QosControl}
use Rattle.mac_types.specs.Numbers.{IsAddress, IsSequenceNumber, sequence_control}
use Rattle.mac_types.specs.Fields.{flags_octet, IsQosControl, qos_control}
use Rattle.mac_frame.specs.declared.subtype.HeaderKind.{HeaderKind}
use Rattle.mac_frame.specs.declared.subtype.Subtype.{Subtype}
use Rattle.mac_frame.specs.declared.header.Header.{Header}
use Rattle.mac_frame.specs.declared.content.Management.{Management}
use Rattle.mac_frame.specs.declared.content.Control.{Control}
use Rattle.mac_frame.specs.declared.content.DataKind.{DataKind}
use Rattle.mac_frame.specs.declared.content.Content.{Content}
use Rattle.mac_frame.specs.declared.fault.Fault.{Fault}
use Rattle.mac_frame.specs.declared.fault.FrameFault.{FrameFault}
use Rattle.mac_frame.specs.declared.fault.FrameFault.TheVariants as answers
use Rattle.mac_frame.specs.Kinds.{first_byte, header_of}
use Rattle.mac_frame.specs.Faults.{first, header_tests, body_tests, first_fault}
use Rattle.mac_frame.specs.Spelling.{word, management_subtype, management_text, IsManagement, control_subtype, control_text, IsControl, data_subtype, data_text, IsData, content_subtype, content_text, IsContent, to_ds}

-- this is the header of the bytes, in a frame with this To DS
pub record IsHeader (kind : HeaderKind) (to_ds : Bool) (b : List ℕ) (header : Header) : Type 0 where
  pub faultless : first (header_tests kind b) ≡ None
  pub octet : slice_index b 1 ≡ flags_octet to_ds header.flags
  pub address : IsAddress header.third
  pub number : IsSequenceNumber header.sequence
  pub spelled : drop 16 b ≡ header.third ++ (word (sequence_control header.sequence) ++ drop 24 b)

-- and it has this QoS control
pub record IsQosHeader (b : List ℕ) (qos : QosControl) : Type 0 where
  pub fits : IsQosControl qos
  pub spelled : drop 24 b ≡ word (qos_control qos) ++ drop 26 b

-- this is the body of the bytes, with this tail
pub record IsBody (kind : Subtype) (b : List ℕ) (body : Management) (tail : List ℕ) : Type 0 where
  pub faultless : first (body_tests kind b) ≡ None
  pub subtype : management_subtype body ≡ kind
  pub spelled : drop 24 b ≡ management_text body tail
  pub fits : IsManagement body tail

-- the bytes after a control frame's header spell this body, and nothing is wrong with them
pub record IsControlBody
    (kind : Subtype) (b : List ℕ) (body : Control) (tail : List ℕ) : Type 0 where
  pub faultless : first (body_tests kind b) ≡ None
  pub subtype : control_subtype body ≡ kind
  pub spelled : drop 16 b ≡ control_text body tail
  pub fits : IsControl body tail

-- the same after a data frame's header
pub record IsDataBody (kind : Subtype) (b : List ℕ) (body : DataKind) (tail : List ℕ) : Type 0 where
  pub faultless : first (body_tests kind b) ≡ None
  pub subtype : data_subtype body ≡ kind
  pub spelled : drop 24 b ≡ data_text body tail
  pub fits : IsData body tail

-- the same for the header and the body
pub record IsContentBody (kind : Subtype) (b : List ℕ) (flags : FrameFlags) (body : Content)
    (tail : List ℕ) : Type 0 where
  pub faultless : first (header_tests (header_of kind) b ++ body_tests kind b) ≡ None
  pub subtype : content_subtype body ≡ kind
  pub octet : slice_index b 1 ≡ flags_octet (to_ds body) flags
  pub spelled : drop 16 b ≡ content_text body tail
  pub fits : IsContent body tail

-- bytes without a fault are those of a frame with these flags and this content
pub record IsWhole (b : List ℕ) (flags : FrameFlags) (body : Content) (tail : List ℕ) : Type 0 where
  pub faultless : first_fault b ≡ None
  pub short : length b ≤ 2400
  pub long : 16 ≤ length b
  pub start : slice_index b 0 ≡ first_byte (content_subtype body)
  pub octet : slice_index b 1 ≡ flags_octet (to_ds body) flags
  pub spelled : drop 16 b ≡ content_text body tail
  pub fits : IsContent body tail

-- why there is no frame: the first fault, or lack of memory, which says nothing about the bytes
abbrev pub IsFault : FrameFault → Option Fault → Type 0
IsFault answers.Memory found = Unit {0}
IsFault (answers.Fault f) found = found ≡ Some f
