use Rattle.apd_program.proofs.Scripted.{address_of}
use Rattle.apd_program.proofs.frames.address.Goals as goal

pub returns-in-len6-clause-address : goal.returns-in-len6-clause-address
returns-in-len6-clause-address c = address_of c.args.word.now _ _ c.in-Ok.ensures.ok c.as_slice.ensures.value c.in-len6.len_at_least c.in-len6.len_below
