-- Walks over the packets of a file.
use Rattle.std.specs.Prelude.{◌≡◌, ◌≢◌, ◌≤◌, ◌<◌, ℕ, ◌+◌, ◌-◌, List, [], length, map, Option, None, Ok}
use Rattle.std.specs.Option.{option_map, option_to_list}
use Rattle.capture.specs.declared.fault.CaptureFault.{CaptureFault}
use Rattle.capture.specs.declared.fault.CaptureFault.TheVariants.{NoMemory}
use Rattle.capture.specs.declared.packet.Packet.{Packet}
use Rattle.capture.specs.declared.section.Section.{Section}
use Rattle.capture.specs.declared.record_walk.RecordWalk.{RecordWalk}
use Rattle.capture.specs.declared.block_walk.BlockWalk.{BlockWalk}
use Rattle.capture.specs.Blocks.{Framed, block_at}
use Rattle.capture.specs.Interfaces.{described_of}
use Rattle.capture.specs.Packets.{Seen, seen_of}
use Rattle.capture.specs.Sections.{State, opening, after_block}
use Rattle.capture.specs.Walks.{records_from, blocks_from}

-- the packets of the records that are still to come
abbrev pub records_left : RecordWalk → List Seen
records_left w = records_from w.most w.form w.rest.now

-- a section as contracts see it
abbrev pub section_of : Section → State
section_of s = record { endian = s.endian; interfaces = map described_of s.interfaces.items; packets = [] }

-- the same with the packet of a block, if it has one
abbrev pub with_seen : Section → Option Packet → State
with_seen s packet = record (section_of s) { packets = option_to_list (option_map seen_of packet) }

-- the packets of the blocks that are still to come
abbrev pub blocks_left : BlockWalk → List Seen
blocks_left w = blocks_from w.most w.size (section_of w.section) w.rest.now

-- where in the file the rest begins
abbrev pub place_in : BlockWalk → ℕ
place_in w = w.size - length w.rest.now

-- one block is passed, and this is its packet, if it has one
pub record IsPassed (w : BlockWalk) (packet : Option Packet) (v : BlockWalk) : Type 0 where
  pub block : Framed
  pub framed : block_at (place_in w) w.section.endian w.rest.now ≡ Ok block
  pub led : after_block (place_in w) (section_of w.section) block ≡ Ok (with_seen v.section packet)
  pub rest : v.rest.now ≡ block.after
  pub size : v.size ≡ w.size
  pub fewer : v.most + 1 ≡ w.most
  pub enough : length v.rest.now ≤ v.most
  pub shorter : length v.rest.now < length w.rest.now

-- no block of the file is passed
pub record IsBegun (file : List ℕ) (w : BlockWalk) : Type 0 where
  pub section : section_of w.section ≡ opening
  pub size : w.size ≡ length file
  pub rest : w.rest.now ≡ file
  pub most : w.most ≡ length file

-- there is no packet, since there is a fault other than lack of memory
pub record IsEnd (fault : CaptureFault) (next : Option Packet) : Type 0 where
  pub none : next ≡ None
  pub known : fault ≢ NoMemory
