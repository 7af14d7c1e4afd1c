use Rattle.std.proofs.Common.{rules}
use Rattle.bpf_helpers.proofs.Asked.{ran_by_state, fitting_after}
use Rattle.bpf_helpers.proofs.hook_run.run_hook.Goals as goal

pub returns-clause-run : goal.returns-clause-run
returns-clause-run c =
    let made = ran_by_state _ _ c.run.new.port c.run.result c.run.ensures.run in
    search (rules, made)

pub returns-clause-fitting : goal.returns-clause-fitting
returns-clause-fitting c =
    let kept = fitting_after _ _ c.run.new.port c.run.result c.run.ensures.run in
    search (rules, kept)
