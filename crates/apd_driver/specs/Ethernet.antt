-- Data that is passed up, as a frame of Ethernet.
use Rattle.std.specs.Prelude.{ℕ, ◌&&◌, Bool, nat_le, nat_lt, List, [], ◌∷◌, ◌++◌, length, take, drop, slice_index, if◌then◌else◌}
use Rattle.std.specs.Str.{bytes_eq}
use Rattle.byteorder.specs.Endian.{big_bytes}
use Rattle.ap_model.specs.declared.event.Up.{Up}

-- the headers of LLC and SNAP (RFC 1042) before a type, which is that of Ethernet II from 0x0600 on
abbrev pub has_type : List ℕ → Bool
has_type body =
    nat_le 8 (length body) && (bytes_eq (take 6 body) (0xaa ∷ 0xaa ∷ 3 ∷ 0 ∷ 0 ∷ 0 ∷ []) && nat_le 6 (slice_index body 6))

-- the length field of IEEE 802.3 for data of so many bytes; 0x8870 stands for more than 1500
abbrev pub length_field : ℕ → List ℕ
length_field count = (if nat_lt 1500 count then 0x88 ∷ 0x70 ∷ [] else big_bytes 2 count)

-- Ethernet II: the type, and what follows it; otherwise IEEE 802.3: the length, and the data
abbrev pub typed : List ℕ → List ℕ
typed body = (if has_type body then drop 6 body else length_field (length body) ++ body)

-- the destination, the source, and the data
abbrev pub ethernet_of : Up → List ℕ
ethernet_of up = up.destination ++ (up.source ++ typed up.body)
