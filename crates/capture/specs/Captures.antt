-- Capture files of either kind.
use Rattle.std.specs.Prelude.{ℕ, Bool, true, false, List, [], ◌∷◌}
use Rattle.capture.specs.declared.fault.CaptureFault.{CaptureFault}
use Rattle.capture.specs.declared.fault.CaptureFault.TheVariants.{NoMemory}
use Rattle.capture.specs.Form.{begins}
use Rattle.capture.specs.Packets.{Seen, HoldsRecords, RefusesRecord}
use Rattle.capture.specs.Sections.{HoldsBlocks, RefusesBlock}

-- a pcapng file begins with a section header
abbrev pub has_sections : List ℕ → Bool
has_sections file = begins (0x0a ∷ 0x0d ∷ 0x0d ∷ 0x0a ∷ []) file

-- the packets of a file, which has sections or records
abbrev pub HoldsAs : Bool → List ℕ → List Seen → Type 0
HoldsAs true file packets = HoldsBlocks file packets
HoldsAs false file packets = HoldsRecords file packets

-- the packets of a file
abbrev pub Holds : List ℕ → List Seen → Type 0
Holds file packets = HoldsAs (has_sections file) file packets

-- what a fault says of a file, which has sections or records
abbrev pub RefusesAs : Bool → List ℕ → CaptureFault → Type 0
RefusesAs true file f = RefusesBlock file f
RefusesAs false file f = RefusesRecord file f

-- what a fault says of a file; lack of memory says nothing
abbrev pub Refuses : List ℕ → CaptureFault → Type 0
Refuses file NoMemory = Unit {0}
Refuses file f = RefusesAs (has_sections file) file f
