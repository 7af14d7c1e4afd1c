use Rattle.std.proofs.Common.{◌≡◌, ◌∙◌, ◌-◌, ◌+◌, ℕ, suc, arith}
use Rattle.bpf_rules.specs.declared.ways.Ways.TheVariants.{One}
use Rattle.bpf_verifier.specs.Traced.{HasWays}
use Rattle.bpf_verifier.proofs.Tracing.{way_of, led_there, led_on, same_ways}
use Rattle.bpf_verifier.proofs.fold.led.Goals as goal

pub examine_moved-requires : goal.examine_moved-requires
examine_moved-requires c =
    let left : ℕ = c.args.steps - (c.loop-step._step + 1) in
    let more : c.args.steps - c.loop-step._step ≡ suc left = omega arith in
    let r = way_of c.args.program.now (c.args.steps - c.loop-step._step) left c.loop-step.current c.requires.leads.0 more (c.loop-step.invariant.leads c.requires.leads.0 c.requires.leads.1) in
    record { begins = (r.1.insn, r.1.at) }

pub only-current-requires : goal.only-current-requires
only-current-requires c =
    let left : ℕ = c.args.steps - (c.loop-step._step + 1) in
    let more : c.args.steps - c.loop-step._step ≡ suc left = omega arith in
    let r = way_of c.args.program.now (c.args.steps - c.loop-step._step) left c.loop-step.current c.requires.leads.0 more (c.loop-step.invariant.leads c.requires.leads.0 c.requires.leads.1) in
    let has : HasWays c.args.program.now c.loop-step.current c.in-Ok.ways = record { insn = r.1.insn; at = r.1.at; examined = c.in-Ok.ensures.is r.1.insn r.1.at } in
    record { one = (r.0, same_ways c.args.program.now c.loop-step.current c.in-Ok.ways (One r.0) has r.1) }

pub loop-step-preserved : goal.loop-step-preserved
loop-step-preserved c =
    let h = c.loop-step.invariant in
    let k = c.in_ok-count_remade.ensures in
    record {
      leads = λ b leads.
          let left : ℕ = c.args.steps - (c.loop-step._step + 1) in
          let more : c.args.steps - c.loop-step._step ≡ suc left = omega arith in
          let r = way_of c.args.program.now (c.args.steps - c.loop-step._step) left c.loop-step.current b more (h.leads b leads) in
          let has : HasWays c.args.program.now c.loop-step.current c.in-Ok.ways = record { insn = r.1.insn; at = r.1.at; examined = c.in-Ok.ensures.is r.1.insn r.1.at } in
          led_on c.args.program.now (c.args.steps - c.loop-step._step) left c.loop-step.current b c.only-current.result c.in-Ok.ways more has c.only-current.ensures.is (h.leads b leads);
      most = k.most ∙ h.most;
      examined = k.examined ∙ h.examined;
      remade = omega (arith, k.remade, h.remade);
      units = omega (arith, k.units, h.units);
    }

pub returns-clause-is : goal.returns-clause-is
returns-clause-is c = λ b h.
    let none : c.args.steps - c.loop-step._step ≡ 0 = omega arith in
    led_there c.args.program.now (c.args.steps - c.loop-step._step) c.loop-step.current b none (c.loop-step.invariant.leads b h)
