-- A capture as it is written: a pcapng file (draft-ietf-opsawg-pcapng, 3.5 and 4.1 to 4.3) of one section in
-- little-endian order, with an interface each for what is received, sent and passed up; times count nanoseconds.
use Rattle.std.specs.Prelude.{◌<◌, ℕ, ◌+◌, ◌-◌, ◌/◌, ◌%◌, ◌^◌, min, nat_lt, List, [], ◌∷◌, ◌++◌, length, take, replicate, codes, Some, Result, Ok, Err, if◌then◌else◌}
use Rattle.byteorder.specs.Endian.{little_bytes}
use Rattle.capture.specs.declared.fault.LeftOut.{LeftOut}
use Rattle.capture.specs.declared.fault.LeftOut.TheVariants.{Cut, LinkType}
use Rattle.capture.specs.declared.new_packet.Side.{Side}
use Rattle.capture.specs.declared.new_packet.Side.TheVariants.{In, Out, Up}
use Rattle.capture.specs.declared.new_packet.NewPacket.{NewPacket}
use Rattle.capture.specs.Blocks.{section}
use Rattle.capture.specs.Interfaces.{padded}
use Rattle.capture.specs.Packets.{Seen}

-- a packet: its interface, its time in nanoseconds since the start of 1970, its bytes, and a text on it
pub record Written : Type 0 where
  pub side : Side
  pub time : ℕ
  pub bytes : List ℕ
  pub comment : List ℕ

-- a packet as contracts see it
abbrev pub written_of : NewPacket → Written
written_of p = record { side = p.side; time = p.time; bytes = p.bytes.now; comment = p.comment.now }

-- 64 bits count its time
abbrev pub IsCounted : Written → Type 0
IsCounted p = p.time < 2 ^ 64

-- the same of all packets
abbrev pub AreCounted : List Written → Type 0
AreCounted [] = Unit {0}
AreCounted (p ∷ packets) = IsCounted p × AreCounted packets

-- the number of an interface in its section
abbrev pub number_of : Side → ℕ
number_of In = 0
number_of Out = 1
number_of Up = 2

-- the link type: 105 is IEEE 802.11, 1 is Ethernet
abbrev pub link_number : Side → ℕ
link_number In = 105
link_number Out = 105
link_number Up = 1

-- the name of an interface
abbrev pub name_of : Side → List ℕ
name_of In = codes "in"
name_of Out = codes "out"
name_of Up = codes "up"

-- the most bytes kept of a packet
abbrev pub most_kept : ℕ
most_kept = 262144

-- the first bytes, at most so many
unfoldable pub cut_to : ℕ → List ℕ → List ℕ
cut_to most bytes = take most bytes

-- zeros up to a multiple of 4 bytes
abbrev pub padding : ℕ → List ℕ
padding count = replicate (padded count - count) 0

-- a block: type 4, total length 4, body, and the total length again, 4
abbrev pub block_of : ℕ → List ℕ → List ℕ
block_of kind body =
    little_bytes 4 kind ++ (little_bytes 4 (length body + 12) ++ (body ++ little_bytes 4 (length body + 12)))

-- an option: code 2, length 2, and a value, padded to a multiple of 4 bytes
abbrev pub option_of : ℕ → List ℕ → List ℕ
option_of code value =
    little_bytes 2 code ++ (little_bytes 2 (length value) ++ (value ++ padding (length value)))

-- the end of options
abbrev pub ending : List ℕ
ending = 0 ∷ 0 ∷ 0 ∷ 0 ∷ []

-- the body of a section header: the byte order's magic number, version 1.0, and no known length
abbrev pub section_body : List ℕ
section_body =
    0x4d ∷ 0x3c ∷ 0x2b ∷ 0x1a ∷ 1 ∷ 0 ∷ 0 ∷ 0
    ∷ 0xff ∷ 0xff ∷ 0xff ∷ 0xff ∷ 0xff ∷ 0xff ∷ 0xff ∷ 0xff ∷ []

-- the body of an interface: link type 2, unused 2, the most bytes kept of a packet 4, its name (option 2), and 10^9
-- units of time a second (option 9)
abbrev pub interface_body : Side → List ℕ
interface_body side =
    little_bytes 2 (link_number side) ++ (little_bytes 2 0 ++ (little_bytes 4 most_kept
    ++ (option_of 2 (name_of side) ++ (option_of 9 (9 ∷ []) ++ ending))))

-- what a file begins with
abbrev pub heading : List ℕ
heading =
    block_of section section_body ++ (block_of 1 (interface_body In)
    ++ (block_of 1 (interface_body Out) ++ block_of 1 (interface_body Up)))

-- how many bytes a packet has, as far as 32 bits count them
abbrev pub original : List ℕ → ℕ
original bytes = min (length bytes) (2 ^ 32 - 1)

-- what follows the numbers of an enhanced packet block: the bytes that are kept, and the comment (option 1)
abbrev pub packet_rest : List ℕ → List ℕ → List ℕ
packet_rest kept comment =
    kept ++ (padding (length kept) ++ (option_of 1 comment ++ ending))

-- the body of an enhanced packet block: interface 4, the time's upper and lower half, bytes that are kept, bytes of the
-- packet, 4 each, and the rest
abbrev pub body_of : Side → ℕ → ℕ → List ℕ → List ℕ → List ℕ
body_of side time many kept comment =
    little_bytes 4 (number_of side) ++ (little_bytes 4 (time / 2 ^ 32) ++ (little_bytes 4 (time % 2 ^ 32)
    ++ (little_bytes 4 (length kept) ++ (little_bytes 4 many ++ packet_rest kept comment))))

-- the same of a packet, which is kept up to its limit, as is the comment
abbrev pub packet_body : Written → List ℕ
packet_body p =
    body_of p.side p.time (original p.bytes) (cut_to most_kept p.bytes) (cut_to 65535 p.comment)

-- the block of a packet
abbrev pub packet_block : Written → List ℕ
packet_block p = block_of 6 (packet_body p)

-- the blocks of packets, one after another
abbrev pub blocks_of : List Written → List ℕ
blocks_of [] = []
blocks_of (p ∷ packets) = packet_block p ++ blocks_of packets

-- a whole file
abbrev pub file_of : List Written → List ℕ
file_of packets = heading ++ blocks_of packets

-- what is read of a packet that isn't cut: what is passed up has no frame of IEEE 802.11
abbrev pub whole_frame : Side → List ℕ → Result (List ℕ) LeftOut
whole_frame In bytes = Ok bytes
whole_frame Out bytes = Ok bytes
whole_frame Up bytes = Err (LinkType 1)

-- the frame that is read of a packet, or why there is none
abbrev pub frame_read : Written → Result (List ℕ) LeftOut
frame_read p =
    (if nat_lt most_kept (length p.bytes) then Err Cut else whole_frame p.side p.bytes)

-- a packet as it is read
abbrev pub seen_from : Written → Seen
seen_from p = record { time = Some p.time; frame = frame_read p }
