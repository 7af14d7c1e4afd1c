use Rattle.apd_program.specs.Texts.{IsRawListing}
use Rattle.apd_program.proofs.KeptCode.{IsOfSlots-loaded}
use Rattle.apd_program.proofs.program.list_raw.Goals as goal

pub returns-clause-listing : goal.returns-clause-listing
returns-clause-listing g c =
    IsOfSlots-loaded (IsRawListing c.args.slots) _ c.args.source _ c.list_raw.result c.in_ok-code.ensures.loaded
    (rw c.as_slice-2.ensures.value at c.list_raw.ensures.listing)
