use Rattle.std.proofs.Common.{arith, refl, ◌∙◌}
use Rattle.bpf_model.specs.Step.{next}
use Rattle.bpf_tagged.specs.Took.{Performs}
use Rattle.bpf_tagged.specs.declared.machine.Stepped.TheVariants.{Finished, Faulted, On}
use Rattle.bpf_machine.specs.Runs.{setting_of}
use Rattle.bpf_machine.proofs.Going.{begins, goes_on, ends, met, met_ahead, stopped}
use Rattle.bpf_machine.proofs.limited_run.probe.Goals as goal

pub steps-init : goal.steps-init
steps-init g c =
    record {
      far = rw c.new-notes.ensures (begins g.P.Port.gives _ _ _ c.start-machine.ensures.is);
      within = omega arith;
      paired = c.start-machine.ensures.paired;
      shapes = c.requires.shapes;
    }

pub returns-in-Finished-clause-is : goal.returns-in-Finished-clause-is
returns-in-Finished-clause-is g c =
    let did : Performs g.P.Port.gives c.args.program.now.shapes (next (setting_of c.args.program.now c.args.frame.now c.args.context.now)) (Finished c.in-Finished.r0) c.steps.port c.step.new.port c.steps.machine c.step.new.machine =
    rw (c.bytes-received.ensures.is, c.bytes-told.ensures.is) at c.in-Finished.ensures.performs in
    (ends g.P.Port.gives _ _ _ _ _ _ _ _ _ c.steps.invariant.far did refl refl, omega arith)

pub returns-in-Faulted-clause-is : goal.returns-in-Faulted-clause-is
returns-in-Faulted-clause-is g c =
    let did : Performs g.P.Port.gives c.args.program.now.shapes (next (setting_of c.args.program.now c.args.frame.now c.args.context.now)) (Faulted c.in-Faulted.number) c.steps.port c.step.new.port c.steps.machine c.step.new.machine =
    rw (c.bytes-received.ensures.is, c.bytes-told.ensures.is) at c.in-Faulted.ensures.performs in
    met g.P.Port.gives _ _ _ _ _ _ c.steps.machine c.step.new.machine _ _ c.steps.invariant.far (omega arith) did

pub steps-preserved : goal.steps-preserved
steps-preserved g c =
    let did : Performs g.P.Port.gives c.args.program.now.shapes (next (setting_of c.args.program.now c.args.frame.now c.args.context.now)) (On c.in-On.noted) c.steps.port c.step.new.port c.steps.machine c.step.new.machine =
    rw (c.bytes-received.ensures.is, c.bytes-told.ensures.is) at c.in-On.ensures.performs in
    record {
      far = goes_on g.P.Port.gives _ _ _ _ _ _ _ _ _ _ c.steps.invariant.far did c.keep_note.ensures.is;
      within = omega arith;
      paired = c.step.ensures.paired;
      shapes = c.step.ensures.shapes ∙ c.steps.invariant.shapes;
    }

pub returns-in-Some-clause-is : goal.returns-in-Some-clause-is
returns-in-Some-clause-is g c =
    met_ahead g.P.Port.gives _ _ _ _ _ c.steps.machine _ _ c.steps.invariant.far (omega arith)
    (rw (← c.bytes-received.ensures.is, ← c.bytes-told.ensures.is) c.in-Some.ensures.is)

pub returns-in-None-clause-is : goal.returns-in-None-clause-is
returns-in-None-clause-is g c =
    stopped g.P.Port.gives _ _ _ _ _ c.steps.machine _ c.steps.invariant.far (omega arith)
    (rw (← c.bytes-received.ensures.is, ← c.bytes-told.ensures.is) c.in-None.ensures.is)
