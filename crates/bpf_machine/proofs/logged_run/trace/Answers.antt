use Rattle.std.proofs.Common.{◌++◌, ◌∷◌, List, [], sym, ◌∙◌}
use Rattle.std.proofs.lemmas.List.{append-nil}
use Rattle.bpf_machine.specs.declared.outcome.Step.{Step}
use Rattle.bpf_machine.proofs.Stood.{setting_is}
use Rattle.bpf_machine.proofs.Listing.{log_begins, log_goes_on, grown}
use Rattle.bpf_machine.proofs.logged_run.trace.Goals as goal

pub steps-init : goal.steps-init
steps-init g c =
    record {
      far = (
        [],
        sym (append-nil c.args.log.now.items),
        log_begins g.P.Port.gives _ _ c.enter-bare.result
            (setting_is c.enter-bare.result c.args.accepted.now c.args.frame.now c.args.context.now c.enter-bare.ensures.program c.enter-bare.ensures.frame c.enter-bare.ensures.context) c.enter-bare.ensures.steps c.enter-bare.ensures.begins,
      );
      shapes = c.requires.shapes;
    }

pub steps-preserved : goal.steps-preserved
steps-preserved g c =
    let made : List Step = c.steps.invariant.far.0 in
    let log = c.steps.invariant.far.2 in
    record {
      far = (
        made ++ record { pc = c.pc-pc.result; note = c.noted-note.result } ∷ [],
        grown _ made _ _ _ (c.in_ok-make_room.ensures.same ∙ c.steps.invariant.far.1) c.push_reserved-in-None.ensures.items,
        log_goes_on g.P.Port.gives _ made _ _ _ c.steps.bare c.step.new.self c.pc-pc.result c.noted-note.result log c.pc-pc.ensures.is c.step.ensures.run
            (c.in-None.ensures.stepped log.far.asked log.far.state log.far.after) (c.noted-note.ensures.is log.far.asked log.far.state log.far.after),
      );
      shapes = c.step.ensures.shapes ∙ c.steps.invariant.shapes;
    }
