use Rattle.std.proofs.Common.{rules, ◌^◌, subst}
use Rattle.std.specs.Result.{IfErr}
use Rattle.std.proofs.lemmas.Result.{IfErr-weaker}
use Rattle.apd_files.specs.Held.{Held, HoldsKept}
use Rattle.apd_words.specs.Asked.{config_of}
use Rattle.apd_program.specs.Faults.{IsMemoryOr, IsBadConfig, HasBadCode}
use Rattle.apd_program.proofs.Faulty.{IsAtFault-configuration, IsAtFault-code}
use Rattle.apd_program.proofs.inputs.load.Goals as goal

pub returns-in_err-setup-clause-fault : goal.returns-in_err-setup-clause-fault
returns-in_err-setup-clause-fault g c =
    let bad : IfErr c.from_residual.result (IsMemoryOr (IsBadConfig (g.F.Files.held c.args.files.now) (config_of c.args.source))) = search rules in
    IfErr-weaker c.from_residual.result _ _ (λ e h. IsAtFault-configuration _ _ _ e h) bad

pub returns-in_err-code-clause-fault : goal.returns-in_err-code-clause-fault
returns-in_err-code-clause-fault g c =
    let bad : IfErr c.from_residual-in_err-code.result (IsMemoryOr (HasBadCode (g.F.Files.held c.setup_of.new.files) c.args.source.file.now)) = search rules in
    IfErr-weaker c.from_residual-in_err-code.result _ _ (λ e h. IsAtFault-code _ _ _ _ _ e c.setup_of.ensures.same c.in_ok-setup.ensures.setup h) bad

pub returns-clause-loaded : goal.returns-clause-loaded
returns-clause-loaded g c =
    let Kept : Held → Type 0 = λ f. HoldsKept (2 ^ 17) f c.args.source.file.now c.in_ok-code.code.items in
    record { configured = c.in_ok-setup.ensures.setup; kept = subst Kept c.setup_of.ensures.same c.in_ok-code.ensures.code }
