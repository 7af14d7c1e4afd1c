use Rattle.std.proofs.Common.{List, Option, IfSome, ap, sym, ◌∙◌, subst, Bor}
use Rattle.std.specs.Option.{option_copied}
use Rattle.bpf_regions.specs.declared.maps.Shape.{Shape}
use Rattle.bpf_decode.specs.Program.{Code}
use Rattle.bpf_machine.specs.Runs.{with_notes}
use Rattle.bpf_machine.specs.Verified.{Verified}
use Rattle.bpf_model.specs.Run.{Safe}
use Rattle.bpf_helpers.specs.HookPorts.{given_by}
use Rattle.versions.specs.Sets.{IsFor}
use Rattle.hook_judge.proofs.Judging.{by_program}
use Rattle.hook_judge.proofs.judge.SetJudge.rule.Goals as goal

pub returns-in-Some-clause-given : goal.returns-in-Some-clause-given
returns-in-Some-clause-given c =
    let set = c.args.self.now.set.now in
    let there = sym (ap option_copied c.in-Some.is) ∙ c.program.ensures.is in
    let own : IsFor set.shapes c.args.hook c.in-Some.accepted.now = subst (λ (o : Option (Bor Verified)). IfSome o (λ p. IsFor set.shapes c.args.hook p.now)) c.in-Some.is c.program.ensures.own in
    let fits = subst (λ (shapes : List Shape). IsFor shapes c.args.hook c.in-Some.accepted.now) c.args.self.now.for_maps own in
    let safe = subst (λ (p : Code). Safe p.slots p.shapes c.in-Some.accepted.now.budget) c.program-safe.ensures.is c.program-safe.ensures.safe in
    by_program (given_by c.args.self.now.view) set.loads c.load_number-load.result c.in-Some.accepted.now c.args.self.now.state.now c.run-exit.new.self
    (record { hook = c.args.hook; frame = c.args.frame.now; context = c.args.context.now }) (with_notes c.run-exit.result c.run-exit.ensures.run.notes) there c.load_number-load.ensures.is fits safe c.run-exit.ensures.run.ran c.run-exit.ensures.within c.run-exit.ensures.run.counted
