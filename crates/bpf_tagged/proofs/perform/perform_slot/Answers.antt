use Rattle.bpf_tagged.proofs.Moving.{faults, same}
use Rattle.bpf_tagged.proofs.perform.perform_slot.Goals as goal

pub returns-in-Some-held-clause-performs : goal.returns-in-Some-held-clause-performs
returns-in-Some-held-clause-performs g c =
    same g.P.Port.gives c.args.input.shapes.now _ _ _ _ _ c.args.machine.now _ (λ notes. simp (c.in-Some.is, c.in-Some-held.is)) c.perform.ensures.performs

pub returns-in-None-held-clause-performs : goal.returns-in-None-held-clause-performs
returns-in-None-held-clause-performs g c =
    faults g.P.Port.gives c.args.input.shapes.now _ _ _ c.args.machine.now _ (λ notes. simp (c.in-Some.is, c.in-None-held.is))

pub returns-in-None-clause-performs : goal.returns-in-None-clause-performs
returns-in-None-clause-performs g c =
    faults g.P.Port.gives c.args.input.shapes.now _ _ _ c.args.machine.now _ (λ notes. simp c.in-None.is)
