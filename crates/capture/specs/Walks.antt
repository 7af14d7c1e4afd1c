-- The packets of a file, one after another, up to its end or its first fault.
use Rattle.std.specs.Prelude.{◌≡◌, ℕ, zero, suc, ◌-◌, Bool, true, false, List, [], ◌∷◌, ◌++◌, length, drop, Option, Some, None, Result, Ok, Err}
use Rattle.capture.specs.declared.fault.CaptureFault.{CaptureFault}
use Rattle.capture.specs.declared.form.Form.{Form}
use Rattle.capture.specs.Form.{form_of}
use Rattle.capture.specs.Packets.{Seen, packet_at, after}
use Rattle.capture.specs.Blocks.{Framed, block_at}
use Rattle.capture.specs.Sections.{State, opening, after_block}
use Rattle.capture.specs.Captures.{has_sections}

-- a packet and those after it, if there is one
abbrev pub seen_then : Option Seen → List Seen → List Seen
seen_then None more = []
seen_then (Some packet) more = packet ∷ more

-- the packets of at most n records
unfoldable pub records_from : ℕ → Form → List ℕ → List Seen
records_from zero form bytes = []
records_from (suc n) form bytes = seen_then (packet_at form bytes) (records_from n form (after form bytes))

-- the packets of a file of records, by what its header says
abbrev pub records_of : List ℕ → Result Form CaptureFault → List Seen
records_of file (Err fault) = []
records_of file (Ok form) = records_from (length file) form (drop 24 file)

-- the state without its packets
abbrev pub emptied : State → State
emptied s = record s { packets = [] }

-- what a block leads to, and what follows it
abbrev pub with_after : List ℕ → Result State CaptureFault → Option (State × List ℕ)
with_after rest (Err fault) = None
with_after rest (Ok t) = Some (t, rest)

abbrev pub passed : ℕ → State → Result Framed CaptureFault → Option (State × List ℕ)
passed place s (Err fault) = None
passed place s (Ok block) = with_after block.after (after_block place s block)

-- the packets of a state, and those of what follows
abbrev pub packets_then : (State → List ℕ → List Seen) → Option (State × List ℕ) → List Seen
packets_then more None = []
packets_then more (Some (t, rest)) = t.packets ++ more (emptied t) rest

-- the packets of at most n blocks at the end of a file of this size
unfoldable pub blocks_from : ℕ → ℕ → State → List ℕ → List Seen
blocks_from zero size s rest = []
blocks_from (suc n) size s rest =
    packets_then (blocks_from n size) (passed (size - length rest) s (block_at (size - length rest) s.endian rest))

-- the packets of a file that has sections or records
abbrev pub packets_as : Bool → List ℕ → List Seen
packets_as true file = blocks_from (length file) (length file) opening file
packets_as false file = records_of file (form_of file)

-- the packets of a file up to its end or its first fault
abbrev pub packets_in : List ℕ → List Seen
packets_in file = packets_as (has_sections file) file

-- the next of these packets, if there is one, and those after it
abbrev pub IsNext : List Seen → Option Seen → List Seen → Type 0
IsNext old None new = (old ≡ []) × (new ≡ [])
IsNext old (Some packet) new = old ≡ packet ∷ new
