-- The kinds of frames, by their first byte (IEEE 802.11-2016, 9.2.4.1.3, Table 9-1): bits 0 and 1 the version, 2 and
-- 3 the type, 4 to 7 the subtype.
use Rattle.std.specs.Prelude.{ℕ, List, [], ◌∷◌, Option, Some, None, ◌==◌, if◌then◌else◌}
use Rattle.mac_frame.specs.declared.subtype.HeaderKind.{HeaderKind}
use Rattle.mac_frame.specs.declared.subtype.HeaderKind.TheVariants as headers
use Rattle.mac_frame.specs.declared.subtype.Subtype.{Subtype}
use Rattle.mac_frame.specs.declared.subtype.Subtype.TheVariants.{AssociationRequest, AssociationResponse, ReassociationRequest, ReassociationResponse, Disassociation, Authentication, Deauthentication, Action, BlockAckReq, BlockAck, Data, Null, QosData, QosNull}

-- the first byte of each supported kind
abbrev pub subtypes : List (ℕ × Subtype)
subtypes =
    (0x00, AssociationRequest) ∷ (0x10, AssociationResponse) ∷ (0x20, ReassociationRequest)
    ∷ (0x30, ReassociationResponse)
    ∷ (0xa0, Disassociation) ∷ (0xb0, Authentication) ∷ (0xc0, Deauthentication) ∷ (0xd0, Action)
    ∷ (0x84, BlockAckReq) ∷ (0x94, BlockAck)
    ∷ (0x08, Data) ∷ (0x48, Null) ∷ (0x88, QosData) ∷ (0xc8, QosNull) ∷ []

-- the kind of a first byte, if it is in the table
abbrev pub in_table : List (ℕ × Subtype) → ℕ → Option Subtype
in_table [] byte = None
in_table (row ∷ rows) byte = if byte == row.0 then Some row.1 else in_table rows byte

-- the subtype that a first byte means
abbrev pub subtype_of : ℕ → Option Subtype
subtype_of byte = in_table subtypes byte

-- the first byte that means a subtype
abbrev pub first_byte : Subtype → ℕ
first_byte AssociationRequest = 0x00
first_byte AssociationResponse = 0x10
first_byte ReassociationRequest = 0x20
first_byte ReassociationResponse = 0x30
first_byte Disassociation = 0xa0
first_byte Authentication = 0xb0
first_byte Deauthentication = 0xc0
first_byte Action = 0xd0
first_byte BlockAckReq = 0x84
first_byte BlockAck = 0x94
first_byte Data = 0x08
first_byte Null = 0x48
first_byte QosData = 0x88
first_byte QosNull = 0xc8

-- the header of a kind (9.3.1, 9.3.2.1, 9.3.3.2)
abbrev pub header_of : Subtype → HeaderKind
header_of AssociationRequest = headers.Management
header_of AssociationResponse = headers.Management
header_of ReassociationRequest = headers.Management
header_of ReassociationResponse = headers.Management
header_of Disassociation = headers.Management
header_of Authentication = headers.Management
header_of Deauthentication = headers.Management
header_of Action = headers.Management
header_of BlockAckReq = headers.Control
header_of BlockAck = headers.Control
header_of Data = headers.Data
header_of Null = headers.Data
header_of QosData = headers.QosData
header_of QosNull = headers.QosData

-- how many bytes a header has
abbrev pub header_length : HeaderKind → ℕ
header_length headers.Management = 24
header_length headers.Control = 16
header_length headers.Data = 24
header_length headers.QosData = 26
