use Rattle.bpf_verifier.proofs.Admitting.{explains_alone}
use Rattle.bpf_verifier.proofs.explanation.explain_within.Goals as goal

pub returns-clause-refused : goal.returns-clause-refused
returns-clause-refused c = explains_alone c.args.program.now c.args.limit c.alone.result _ c.alone.ensures.is c.alone.ensures.valid c.explain_limited.ensures.refused
