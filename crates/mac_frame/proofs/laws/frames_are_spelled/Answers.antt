use Rattle.mac_frame.proofs.Again.{fault_free}
use Rattle.mac_frame.proofs.Alone.{alone}
use Rattle.mac_frame.proofs.Cutting.{cuts_none, reads_elements}
use Rattle.mac_frame.proofs.laws.frames_are_spelled.Goals as goal

pub returns : goal.returns
returns c = record {
  without_fault = fault_free;
  one_frame = alone;
  cut = cuts_none;
  elements = reads_elements;
}
