-- What is read from a frame, and the frames that an access point sends.
use Rattle.std.specs.Prelude.{ℕ, Bool, true, false, if◌then◌else◌, List, [], Option, Some, None}
use Rattle.mac_types.specs.declared.fields.FrameFlags.{FrameFlags}
use Rattle.mac_types.specs.declared.fields.BlockAckParameters.{BlockAckParameters}
use Rattle.mac_frame.specs.declared.content.Management.{Management}
use Rattle.mac_frame.specs.declared.content.Management.TheVariants as management
use Rattle.mac_frame.specs.declared.content.Control.{Control}
use Rattle.mac_frame.specs.declared.content.Control.TheVariants as control
use Rattle.mac_frame.specs.declared.content.DataKind.{DataKind}
use Rattle.mac_frame.specs.declared.content.DataKind.TheVariants as kinds
use Rattle.mac_frame.specs.declared.content.Content.{Content}
use Rattle.mac_frame.specs.declared.content.Content.TheVariants as content
use Rattle.mac_frame.specs.Elements.{Element, elements_in, first_with, nonempty}
use Rattle.mac_frame.specs.Spelling.{Frame}

-- ---- what is read

-- the BSSID, if a frame names it: address 3 of management frames, address 1 of data frames
abbrev pub bssid_by : Content → List ℕ → Option (List ℕ)
bssid_by (content.Management bssid sequence body) receiver = Some bssid
bssid_by (content.Control body) receiver = None
bssid_by (content.Data destination sequence kind) receiver = Some receiver

-- the BSSID of a frame, if it names one
abbrev pub bssid_of : Frame → Option (List ℕ)
bssid_of f = bssid_by f.content f.receiver

-- the sequence number, which control frames don't have
abbrev pub sequence_number_of : Content → Option ℕ
sequence_number_of (content.Management bssid sequence body) = Some sequence
sequence_number_of (content.Control body) = None
sequence_number_of (content.Data destination sequence kind) = Some sequence

-- the parameters of an ADDBA request or response
abbrev pub parameters_by : Management → Option BlockAckParameters
parameters_by (management.AddbaRequest token parameters timeout start) = Some parameters
parameters_by (management.AddbaResponse token status parameters timeout) = Some parameters
parameters_by _ = None

-- the Block Ack Parameter Set, if the frame has one
abbrev pub parameters_of : Content → Option BlockAckParameters
parameters_of (content.Management bssid sequence body) = parameters_by body
parameters_of (content.Control body) = None
parameters_of (content.Data destination sequence kind) = None

-- the TID of a block acknowledgement action
abbrev pub management_tid : Management → Option ℕ
management_tid (management.AddbaRequest token parameters timeout start) = Some parameters.tid
management_tid (management.AddbaResponse token status parameters timeout) = Some parameters.tid
management_tid (management.Delba parameters reason) = Some parameters.tid
management_tid _ = None

-- the TID of a control frame
abbrev pub control_tid : Control → ℕ
control_tid (control.BlockAckReq tid start) = tid
control_tid (control.BlockAck tid start bitmap) = tid

-- the TID of QoS data; other data has none
abbrev pub data_tid : DataKind → Option ℕ
data_tid kinds.Data = None
data_tid kinds.Null = None
data_tid (kinds.QosData qos) = Some qos.tid
data_tid (kinds.QosNull qos) = Some qos.tid

-- the TID of a frame, if it has one
abbrev pub tid_of : Content → Option ℕ
tid_of (content.Management bssid sequence body) = management_tid body
tid_of (content.Control body) = Some (control_tid body)
tid_of (content.Data destination sequence kind) = data_tid kind

-- only (re)association requests and responses have elements
abbrev pub has_elements : Management → Bool
has_elements (management.AssociationRequest capability interval) = true
has_elements (management.AssociationResponse capability status aid) = true
has_elements (management.ReassociationRequest capability interval current) = true
has_elements (management.ReassociationResponse capability status aid) = true
has_elements _ = false

-- the elements after a management frame's fixed fields; other frames have none
abbrev pub elements_by : Content → List ℕ → List Element
elements_by (content.Management bssid sequence body) tail =
    if has_elements body then elements_in tail else []
elements_by (content.Control body) tail = []
elements_by (content.Data destination sequence kind) tail = []

-- the elements of a frame
abbrev pub elements_of : Frame → List Element
elements_of f = elements_by f.content f.tail

-- the first SSID element, id 0 (9.4.2.2)
abbrev pub ssid_of : Frame → Option (List ℕ)
ssid_of f = first_with 0 (elements_of f)

-- the first nonempty Supported Rates element, id 1 (9.4.2.3)
abbrev pub rates_of : Frame → Option (List ℕ)
rates_of f = first_with 1 (nonempty (elements_of f))

-- ---- what is sent

-- no flag is set
abbrev pub no_flags : FrameFlags
no_flags = record { retry = false; power_management = false; more_data = false }

-- a management frame from an access point to a station
abbrev pub sent_management : List ℕ → List ℕ → Management → List ℕ → Frame
sent_management station bssid body tail =
    record {
      flags = no_flags;
      duration = 0;
      receiver = station;
      sender = bssid;
      content = content.Management bssid 0 body;
      tail = tail;
    }

-- a control frame from an access point to a station
abbrev pub sent_control : List ℕ → List ℕ → Control → Frame
sent_control station bssid body =
    record {
      flags = no_flags;
      duration = 0;
      receiver = station;
      sender = bssid;
      content = content.Control body;
      tail = [];
    }
