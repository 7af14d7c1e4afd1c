use Rattle.apd_program.specs.Texts.{IsListingWith}
use Rattle.apd_program.proofs.Said.{IsOfProgram-decoded, IsOfProgram-undecoded}
use Rattle.apd_program.proofs.texts.disassemble.Goals as goal

pub returns-in-Ok-clause-listing : goal.returns-in-Ok-clause-listing
returns-in-Ok-clause-listing c = IsOfProgram-decoded (IsListingWith c.args.slots) _ _ _ c.in-Ok.program c.in-Ok.ensures.ok c.in-Ok.ensures.shapes c.written_with.ensures.listing

pub returns-in-Err-clause-listing : goal.returns-in-Err-clause-listing
returns-in-Err-clause-listing c = IsOfProgram-undecoded (IsListingWith c.args.slots) _ _ _ c.in-Err.fault c.in-Err.ensures.err c.undecoded.ensures.fault
