use Rattle.std.proofs.Common.{◌≡◌, ◌∙◌, Some, refl, sym, ap, subst}
use Rattle.std.specs.Option.{option_copied}
use Rattle.bpf_decode.specs.Program.{Code}
use Rattle.bpf_model.specs.Run.{Safe}
use Rattle.bpf_machine.specs.Verified.{Verified}
use Rattle.bpf_helpers.specs.HookPorts.{given_by}
use Rattle.program_judge.specs.Programs.{program_at}
use Rattle.apd_eval.proofs.Metering.{metered}
use Rattle.apd_eval.proofs.witness.Witness.rule.Goals as goal

pub returns-in-Some-clause-ruling : goal.returns-in-Some-clause-ruling
returns-in-Some-clause-ruling c =
    let v : Verified = c.in-Some.accepted.now in
    let is : program_at c.args.hook c.args.self.now.programs.now ≡ Some v = sym c.program.ensures.is ∙ ap option_copied c.in-Some.is in
    let safe = subst (λ (p : Code). Safe p.slots p.shapes v.budget) c.program-safe.ensures.is c.program-safe.ensures.safe in
    record {
      hook = refl;
      context = refl;
      clock = refl;
      stations = refl;
      given = metered (given_by c.args.self.now.view) (program_at c.args.hook c.args.self.now.programs.now) v c.args.self.now.state.now (record { hook = c.args.hook; frame = c.args.frame.now; context = c.args.context.now })
          c.run-outcome.new.self c.run-outcome.result is c.in-Some.ensures.own.hook_is (c.in-Some.ensures.own.shapes_are ∙ c.args.self.now.for_maps) safe c.run-outcome.ensures.within c.run-outcome.ensures.run;
    }
