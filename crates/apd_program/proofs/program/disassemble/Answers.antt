use Rattle.apd_program.specs.Texts.{IsListingWith}
use Rattle.apd_program.proofs.KeptCode.{IsOfCode-loaded}
use Rattle.apd_program.proofs.program.disassemble.Goals as goal

pub returns-clause-listing : goal.returns-clause-listing
returns-clause-listing g c =
    IsOfCode-loaded (λ setup. IsListingWith c.args.slots) _ c.args.source _ c.disassemble.result c.in_ok-code.ensures.loaded
    (rw c.as_slice.ensures.value at c.disassemble.ensures.listing)
