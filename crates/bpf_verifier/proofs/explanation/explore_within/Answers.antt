use Rattle.bpf_verifier.proofs.Admitting.{exacts_alone}
use Rattle.bpf_verifier.proofs.explanation.explore_within.Goals as goal

pub returns-clause-refused : goal.returns-clause-refused
returns-clause-refused c = exacts_alone c.args.program.now c.args.limit c.alone.result _ c.alone.ensures.is c.alone.ensures.valid c.explore_limited.ensures.refused
