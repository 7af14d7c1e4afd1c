-- Which frames of a capture are for an access point, and which access points a capture names (IEEE 802.11-2016, 9.2.4.1:
-- type, subtype and direction in the first two octets; 9.3.2.1 and 9.3.3.2: the addresses).
use Rattle.std.specs.Prelude.{◌≡◌, ◌≢◌, ℕ, ◌+◌, ◌/◌, ◌%◌, ◌==◌, ◌&&◌, nat_lt, Bool, true, false, not, List, [], ◌∷◌, length, slice_index_or, Option, Some, None, option_and_then, Result, Ok, Err, if◌then◌else◌}
use Rattle.std.specs.List.{All, Contains, count_by, flat_map}
use Rattle.std.specs.Option.{option_map_or, option_to_list}
use Rattle.std.specs.Str.{bytes_eq}
use Rattle.capture.specs.Packets.{Seen}
use Rattle.capture.specs.declared.fault.LeftOut.{LeftOut}
use Rattle.apd_policies.specs.declared.frames.chosen.Named.{Named}
use Rattle.apd_policies.specs.declared.frames.chosen.Named.TheVariants.{NoOne, One, Several}

-- the octet at an index, or 0 past the end
abbrev pub octet : List ℕ → ℕ → ℕ
octet frame at = slice_index_or frame at 0

-- the six octets from an index on
abbrev pub octets : List ℕ → ℕ → List ℕ
octets frame at =
    octet frame at ∷ octet frame (at + 1) ∷ octet frame (at + 2) ∷ octet frame (at + 3)
    ∷ octet frame (at + 4) ∷ octet frame (at + 5) ∷ []

-- the address at an index, if the frame is long enough
abbrev pub address_at : List ℕ → ℕ → Option (List ℕ)
address_at frame at = (if nat_lt (length frame) (at + 6) then None else Some (octets frame at))

-- 0 for management, 1 for control, 2 for data
abbrev pub type_of : List ℕ → ℕ
type_of frame = octet frame 0 / 4 % 4

-- ---- frames for an access point

-- a control frame other than a request for a block acknowledgement (subtype 8), such as an acknowledgement
abbrev pub is_response : List ℕ → Bool
is_response frame = type_of frame == 1 && not (octet frame 0 / 16 == 8)

-- the frame's receiver has this address
abbrev pub is_to : List ℕ → List ℕ → Bool
is_to address frame = option_map_or (bytes_eq address) (address_at frame 4) false

-- the frame is for an access point with this address
abbrev pub is_for : List ℕ → List ℕ → Bool
is_for address frame = is_to address frame && not (is_response frame)

-- a packet is kept that has no frame, or a frame for the access point, if one is named
abbrev pub is_kept : Option (List ℕ) → Result (List ℕ) LeftOut → Bool
is_kept None frame = true
is_kept (Some bssid) (Err left_out) = true
is_kept (Some bssid) (Ok frame) = is_for bssid frame

-- how many packets aren't kept
abbrev pub others : Option (List ℕ) → List Seen → ℕ
others bssid packets = count_by (λ p. not (is_kept bssid p.frame)) packets

-- ---- the access points of a capture

-- the address of one station, not of a group (lowest bit of the first octet)
abbrev pub individual : List ℕ → Option (List ℕ)
individual address = (if octet address 0 % 2 == 0 then Some address else None)

-- the access point of data: the receiver if it goes to one (To DS alone), the sender if it comes from one (From DS alone)
abbrev pub data_point : List ℕ → Option (List ℕ)
data_point frame =
    (if octet frame 1 % 4 == 1 then address_at frame 4
    else (if octet frame 1 % 4 == 2 then address_at frame 10 else None))

-- the access point of a management frame, by its third address
abbrev pub management_point : List ℕ → Option (List ℕ)
management_point frame = option_and_then individual (address_at frame 16)

-- the access point that a frame names
abbrev pub point_of : List ℕ → Option (List ℕ)
point_of frame =
    (if type_of frame == 0 then management_point frame
    else (if type_of frame == 2 then data_point frame else None))

-- the access point that a packet names
abbrev pub point_in : Result (List ℕ) LeftOut → Option (List ℕ)
point_in (Ok frame) = point_of frame
point_in (Err left_out) = None

-- those that packets name, one for each naming frame
abbrev pub points_of : List Seen → List (List ℕ)
points_of packets = flat_map (λ p. option_to_list (point_in p.frame)) packets

-- what is named with one more access point, if it is one
abbrev pub named_with : Named → Option (List ℕ) → Named
named_with n None = n
named_with NoOne (Some point) = One point
named_with (One address) (Some point) = (if bytes_eq address point then One address else Several)
named_with Several (Some point) = Several

-- none is named, or one and no other, or two
abbrev pub AreNamed : List (List ℕ) → Named → Type 0
AreNamed points NoOne = points ≡ []
AreNamed points (One address) = Contains points address × All (λ a. a ≡ address) points
AreNamed points Several =
    (a : List ℕ) × (b : List ℕ) × Contains points a × Contains points b × (a ≢ b)
