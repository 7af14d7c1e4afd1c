use Rattle.std.proofs.Common.{rules, ◌≡◌, Some, subst}
use Rattle.std.specs.List.{All}
use Rattle.versions.specs.Lists.{Beginning}
use Rattle.versions.specs.Sets.{Fits, program_at, set_of}
use Rattle.versions.proofs.SetLemmas.{at_fits}
use Rattle.versions.proofs.set.ProgramSet.program.Goals as goal

pub returns-in-Some-clause-own : goal.returns-in-Some-clause-own
returns-in-Some-clause-own c =
    let there : Some c.deref.result.now ≡ program_at c.args.hook (set_of c.args.self.now.loads) = search rules in
    let fitting : All (Fits c.args.self.now.shapes) c.args.self.now.loads = subst (λ (k : Beginning). All (Fits k.shapes) k.loads) c.self.view_is c.fitting.ensures in
    at_fits c.args.self.now.shapes c.args.self.now.loads c.args.hook c.deref.result.now fitting there
