-- How many packets a file has.
use Rattle.std.specs.Prelude.{◌≡◌, ℕ, true, false, List, length}
use Rattle.capture.specs.Packets.{HoldsRecords}
use Rattle.capture.specs.Sections.{HoldsBlocks}
use Rattle.capture.specs.Captures.{Holds}
use Rattle.capture.specs.Walks.{packets_as, packets_in}

-- the file has records of so many packets, to its end
pub record AreRecords (file : List ℕ) (count : ℕ) : Type 0 where
  pub held : HoldsRecords file (packets_as false file)
  pub many : length (packets_as false file) ≡ count

-- the file has blocks with so many packets, to its end
pub record AreInBlocks (file : List ℕ) (count : ℕ) : Type 0 where
  pub held : HoldsBlocks file (packets_as true file)
  pub many : length (packets_as true file) ≡ count

-- the file has so many packets, and no fault
pub record ArePackets (file : List ℕ) (count : ℕ) : Type 0 where
  pub held : Holds file (packets_in file)
  pub many : length (packets_in file) ≡ count
