use Rattle.std.proofs.Common.{ap, sym, ◌∙◌}
use Rattle.bpf_verifier.specs.declared.frame.Frame.{Frame}
use Rattle.bpf_verifier.specs.declared.fold.Outline.{Outline}
use Rattle.bpf_verifier.specs.Traced.{HasWays, IsAtTarget}
use Rattle.bpf_verifier.proofs.Tracing as tracing
use Rattle.bpf_verifier.proofs.fold.reopened.Goals as goal

pub returns-clause-is : goal.returns-clause-is
returns-clause-is c = λ f child h e.
    let g : Frame = record { before = c.args.outline.before; state = c.in-Ok.outcome.kept; pending = c.parted-pending.result.0; best = c.args.outline.best } in
    let has : HasWays c.args.program.now c.args.own c.in-Ok.outcome.ways = record { insn = h.has.insn; at = h.has.at; examined = c.in-Ok.ensures.ways h.has.insn h.has.at } in
    let state : IsAtTarget c.args.program.now c.args.own g.state = record { there = c.in-Ok.ensures.there; elsewhere = c.in-Ok.ensures.elsewhere } in
    tracing.reopened c.args.program.now f g c.args.own c.parted-pending.result.1 child c.in-Ok.outcome.ways has state c.parted-pending.ensures.open
    (ap (λ (o : Outline). o.before) e) (ap (λ (o : Outline). o.best) e) (sym c.parted-pending.ensures.forks ∙ ap (λ (o : Outline). o.forks) e) h
