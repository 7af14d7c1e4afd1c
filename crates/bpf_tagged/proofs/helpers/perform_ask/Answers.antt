use Rattle.std.proofs.Common.{refl}
use Rattle.bpf_regions.specs.declared.memory.Value.TheVariants.{Number}
use Rattle.bpf_regions.specs.declared.asks.Ask.TheVariants.{Help}
use Rattle.bpf_model.specs.Step.{answered}
use Rattle.bpf_tagged.specs.Took.{at, answered_on}
use Rattle.bpf_tagged.proofs.Moving.{asks_as}
use Rattle.bpf_tagged.proofs.helpers.perform_ask.Goals as goal

pub returns-clause-performs : goal.returns-clause-performs
returns-clause-performs g c =
    asks_as g.P.Port.gives (g.P.Port.shapes c.args.port.now) _ (Help c.args.helper) c.helper-answer.result (λ notes a. answered (at c.args.machine.now notes) (Number a)) _ _ c.args.machine.now (answered_on c.args.machine.now (Number c.helper-answer.result)) _ c.answer_with.ensures c.helper-answer.ensures.gives c.helper-answer.ensures.in_range (λ notes. refl) (λ notes. refl)
