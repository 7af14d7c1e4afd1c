-- The packets of a pcapng file (draft-ietf-opsawg-pcapng, 4.1 to 4.4): sections, each with interfaces and the packets
-- that these captured. Blocks of other types are skipped.
use Rattle.std.specs.Prelude.{◌≡◌, ◌<◌, ℕ, ◌+◌, ◌-◌, ◌*◌, ◌/◌, ◌^◌, ◌==◌, ◌&&◌, ◌||◌, Bool, nat_lt, min, List, [], ◌∷◌, ◌++◌, length, take, drop, slice_get, Option, Some, None, Result, Ok, Err, if◌then◌else◌}
use Rattle.capture.specs.declared.fault.CaptureFault.{CaptureFault}
use Rattle.capture.specs.declared.fault.CaptureFault.TheVariants.{Version, BadBlock}
use Rattle.capture.specs.declared.fields.Endian.{Endian}
use Rattle.capture.specs.declared.fields.Endian.TheVariants.{Little}
use Rattle.capture.specs.declared.packet.Packet.{Packet}
use Rattle.capture.specs.Fields.{number_at}
use Rattle.capture.specs.Packets.{Seen, seen_of, frame_of}
use Rattle.capture.specs.Blocks.{Framed, section, block_at}
use Rattle.capture.specs.Interfaces.{Described, interface_of}

-- a packet, for a result
abbrev pub seen_in : Result Packet CaptureFault → Result Seen CaptureFault
seen_in (Ok packet) = Ok (seen_of packet)
seen_in (Err fault) = Err fault

-- a time in nanoseconds, at most what 64 bits can count
abbrev pub stamp_of : ℕ → ℕ → ℕ
stamp_of units count = min (count * 1000000000 / units) (2 ^ 64 - 1)

-- the time of an enhanced packet block: 8 bytes, the upper 4 first in either byte order
abbrev pub stamp_in : Described → Framed → ℕ
stamp_in i b =
    stamp_of i.units (number_at b.endian 4 4 b.body * 2 ^ 32 + number_at b.endian 4 8 b.body)

-- the packet of an enhanced packet block (4.3): interface 4, time 8, captured bytes 4, bytes of the
-- packet 4, and the captured bytes
abbrev pub enhanced_of : ℕ → Framed → Option Described → Result Seen CaptureFault
enhanced_of place b None = Err (BadBlock place)
enhanced_of place b (Some i) =
    (if nat_lt (length (drop 20 b.body)) (number_at b.endian 4 12 b.body) then Err (BadBlock place)
    else Ok (record {
      time = Some (stamp_in i b);
      frame = frame_of i.link (number_at b.endian 4 16 b.body)
          (take (number_at b.endian 4 12 b.body) (drop 20 b.body));
    }))

-- the same, by the section's interfaces, counted from 0
abbrev pub enhanced : ℕ → List Described → Framed → Result Seen CaptureFault
enhanced place interfaces b =
    (if nat_lt (length b.body) 20 then Err (BadBlock place)
    else enhanced_of place b (slice_get interfaces (number_at b.endian 4 0 b.body)))

-- how many of a packet's bytes an interface captures
abbrev pub kept : ℕ → ℕ → ℕ
kept most original = (if most == 0 then original else min original most)

-- how many bytes of the packet a simple packet block has
abbrev pub simply_kept : Framed → Described → ℕ
simply_kept b i = kept i.most (number_at b.endian 4 0 b.body)

-- the packet of a simple packet block (4.4): bytes of the packet 4, and the captured bytes. The section's first
-- interface captured it, at an unknown time.
abbrev pub simple_of : ℕ → Framed → List Described → Result Seen CaptureFault
simple_of place b [] = Err (BadBlock place)
simple_of place b (i ∷ interfaces) =
    (if nat_lt (length (drop 4 b.body)) (simply_kept b i) then Err (BadBlock place)
    else Ok (record {
      time = None;
      frame = frame_of i.link (number_at b.endian 4 0 b.body)
          (take (simply_kept b i) (drop 4 b.body));
    }))

-- the same, if the block is long enough
abbrev pub simple : ℕ → List Described → Framed → Result Seen CaptureFault
simple place interfaces b =
    (if nat_lt (length b.body) 4 then Err (BadBlock place) else simple_of place b interfaces)

-- what is known so far: the byte order and the interfaces of the section, and the packets
pub record State : Type 0 where
  pub endian : Endian
  pub interfaces : List Described
  pub packets : List Seen

-- version 1.0, or 1.2, which is read as 1.0 (4.1)
abbrev pub is_section_version : ℕ → ℕ → Bool
is_section_version major minor = major == 1 && (minor == 0 || minor == 2)

-- after a section header (4.1): byte order 4, major and minor version 2 each, length 8. A section begins without
-- interfaces; its length is ignored.
abbrev pub begun : ℕ → State → Framed → Result State CaptureFault
begun place s b =
    (if nat_lt (length b.body) 16 then Err (BadBlock place) else
    (if is_section_version (number_at b.endian 2 4 b.body) (number_at b.endian 2 6 b.body)
    then Ok (record { endian = b.endian; interfaces = []; packets = s.packets })
    else Err (Version (number_at b.endian 2 4 b.body) (number_at b.endian 2 6 b.body))))

-- after a block that describes an interface
abbrev pub with_interface : State → Result Described CaptureFault → Result State CaptureFault
with_interface s (Err fault) = Err fault
with_interface s (Ok i) = Ok (record s { interfaces = s.interfaces ++ i ∷ [] })

-- after a block that holds a packet
abbrev pub with_packet : State → Result Seen CaptureFault → Result State CaptureFault
with_packet s (Err fault) = Err fault
with_packet s (Ok packet) = Ok (record s { packets = s.packets ++ packet ∷ [] })

-- after a block at this position in the file, by its type
abbrev pub after_block : ℕ → State → Framed → Result State CaptureFault
after_block place s b =
    (if b.kind == section then begun place s b else
    (if b.kind == 1 then with_interface s (interface_of place b) else
    (if b.kind == 3 then with_packet s (simple place s.interfaces b) else
    (if b.kind == 6 then with_packet s (enhanced place s.interfaces b) else Ok s))))

-- the position in the file at which its rest begins
abbrev pub place_of : List ℕ → List ℕ → ℕ
place_of file rest = length file - length rest

-- before the first section, whose header shows its byte order
abbrev pub opening : State
opening = record { endian = Little; interfaces = []; packets = [] }

-- what is known, and what is left of the file, after some of its blocks
pub data Reached (file : List ℕ) : State → List ℕ → Type 0 where
  Opened : Reached file opening file
  Passed : (s t : State) (rest : List ℕ) (block : Framed) → Reached file s rest → 0 < length rest
      → block_at (place_of file rest) s.endian rest ≡ Ok block
      → after_block (place_of file rest) s block ≡ Ok t → Reached file t block.after

-- the packets of a file that has blocks to its end
pub record HoldsBlocks (file : List ℕ) (packets : List Seen) : Type 0 where
  pub state : State
  pub reached : Reached file state []
  pub are : packets ≡ state.packets

-- the first block of the rest has this fault, in its lengths or its contents
pub data IsFaulty (place : ℕ) (s : State) (rest : List ℕ) (fault : CaptureFault) : Type 0 where
  Unframed : block_at place s.endian rest ≡ Err fault → IsFaulty place s rest fault
  Misread : (block : Framed) → block_at place s.endian rest ≡ Ok block
      → after_block place s block ≡ Err fault → IsFaulty place s rest fault

-- a file in which a block has this fault, and none before it has one
pub record RefusesBlock (file : List ℕ) (fault : CaptureFault) : Type 0 where
  pub state : State
  pub rest : List ℕ
  pub reached : Reached file state rest
  pub some : 0 < length rest
  pub is : IsFaulty (place_of file rest) state rest fault
