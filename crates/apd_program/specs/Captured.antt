-- What is read of a capture: all, or, if it is cut, what is before the cut.
use Rattle.std.specs.Prelude.{◌≡◌, ◌≢◌, ℕ, ◌==◌, Bool, true, false, List, ◌++◌, length, Option, Some, None}
use Rattle.capture.specs.Packets.{Seen}
use Rattle.capture.specs.Captures as capture
use Rattle.capture.specs.declared.fault.CaptureFault.{CaptureFault}
use Rattle.capture.specs.declared.fault.CaptureFault.TheVariants.{NoMemory, CutRecord, CutBlock}

-- so many bytes with so many packets are all before the fault, which is a cut
abbrev pub is_before : CaptureFault → ℕ → ℕ → Bool
is_before (CutRecord count) bytes packets = packets == count
is_before (CutBlock place) bytes packets = bytes == place
is_before _ bytes packets = false

-- the file is cut, and these are the packets before that
pub record IsCut (file : List ℕ) (fault : CaptureFault) (packets : List Seen) : Type 0 where
  pub refused : capture.Refuses file fault
  pub front : List ℕ
  pub rest : List ℕ
  pub cut : file ≡ front ++ rest
  pub held : capture.Holds front packets
  pub before : is_before fault (length front) (length packets) ≡ true

-- the packets of a file, or those before this fault
abbrev pub IsCaptured : List ℕ → Option CaptureFault → List Seen → Type 0
IsCaptured file None packets = capture.Holds file packets
IsCaptured file (Some fault) packets = IsCut file fault packets

-- the file has a fault other than lack of memory
pub record IsNoCapture (file : List ℕ) : Type 0 where
  pub fault : CaptureFault
  pub known : fault ≢ NoMemory
  pub refused : capture.Refuses file fault
