use Rattle.std.proofs.Common.{◌≡◌, true, false}
use Rattle.apd_program.proofs.Faulty.{IsContext-of, IsGiven-of}
use Rattle.apd_program.proofs.program.context.Goals as goal

pub returns-in-Ok-clause-context : goal.returns-in-Ok-clause-context
returns-in-Ok-clause-context c = IsContext-of c.args.hook c.args.given.context c.args.given.from_frame _ c.in-Ok.ensures.zeros c.in-Ok.ensures.hook

pub returns-in-Err-clause-fault : goal.returns-in-Err-clause-fault
returns-in-Err-clause-fault c = IsGiven-of c.args.given.context c.args.given.from_frame _ (λ none alone. let no : false ≡ true = c.in-Err.ensures.plain none alone in cc)
