use Rattle.std.proofs.Common.{rules, refl, sym, subst}
use Rattle.bpf_machine.specs.Runs.{Ran, setting_of, with_notes}
use Rattle.bpf_helpers.specs.Hooked.{Gives}
use Rattle.bpf_helpers.specs.HookPorts.{given_by}
use Rattle.bpf_helpers.proofs.Asked.{asked_of_state, ran_by_state, fitting_after}
use Rattle.hook_judge.specs.Counted.{Counted, held_of}
use Rattle.hook_judge.proofs.state.CountedState.run.Goals as goal

pub shape_of-self-inside : goal.shape_of-self-inside
shape_of-self-inside c =
    sym (asked_of_state _ c.run-exit.new.port _ c.run-exit.ensures.run.listed).0.state

pub returns-clause-run : goal.returns-clause-run
returns-clause-run c =
    let made = ran_by_state _ _ c.run-exit.new.port (with_notes c.run-exit.result c.run-exit.new.self) c.run-exit.ensures.run c.run-exit.new.port.state.now (λ same. refl) in
    record {
      notes = c.run-exit.new.self;
      ran = subst (λ (s : Counted). Ran (Gives (given_by c.args.view)) (setting_of c.args.accepted.now.code c.args.frame.now c.args.context.now) (held_of s) c.run-exit.new.port.state.now (with_notes c.run-exit.result c.run-exit.new.self)) c.self.view_is made;
      counted = search rules;
    }

pub returns-clause-fitting : goal.returns-clause-fitting
returns-clause-fitting c =
    let kept = fitting_after _ _ c.run-exit.new.port (with_notes c.run-exit.result c.run-exit.new.self) c.run-exit.ensures.run c.run-exit.new.port.state.now (λ same. refl) in
    search (rules, kept)
