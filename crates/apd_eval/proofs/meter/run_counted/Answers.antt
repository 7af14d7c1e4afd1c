use Rattle.std.proofs.Common.{◌∙◌}
use Rattle.bpf_machine.proofs.Stood.{setting_is}
use Rattle.apd_eval.proofs.Counting.{tally_begins, tally_on, tally_ends}
use Rattle.apd_eval.proofs.meter.run_counted.Goals as goal

pub steps-init : goal.steps-init
steps-init g c = record {
  far = tally_begins g.P.Port.gives _ _ c.enter-bare.result c.args.counts.now
      (setting_is c.enter-bare.result c.args.accepted.now c.args.frame.now c.args.context.now c.enter-bare.ensures.program c.enter-bare.ensures.frame c.enter-bare.ensures.context) c.enter-bare.ensures.steps c.enter-bare.ensures.begins;
  shapes = c.requires.shapes;
}

pub steps-preserved : goal.steps-preserved
steps-preserved g c =
    let tally = c.steps.invariant.far in
    record {
      far = tally_on g.P.Port.gives _ _ _ _ c.steps.bare c.step.new.self _ _ _ c.pc-pc.result tally c.pc-pc.ensures.is c.tick-in-None.ensures.is c.step.ensures.run
          (c.in-None.ensures.stepped tally.far.asked tally.far.state tally.far.after);
      shapes = c.step.ensures.shapes ∙ c.steps.invariant.shapes;
    }

pub returns-in-Some-clause-run : goal.returns-in-Some-clause-run
returns-in-Some-clause-run g c =
    let tally = c.steps.invariant.far in
    tally_ends g.P.Port.gives _ _ _ _ c.steps.bare c.step.new.self _ _ _ c.pc-pc.result c.in-Some.outcome tally c.pc-pc.ensures.is c.tick.ensures.is
    (c.in-Some.ensures.stepped tally.far.asked tally.far.state tally.far.after)
