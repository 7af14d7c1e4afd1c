use Rattle.std.proofs.Common.{rules, ◌^◌, ◌∙◌, subst}
use Rattle.std.specs.Result.{IfErr}
use Rattle.std.proofs.lemmas.Result.{IfErr-weaker}
use Rattle.apd_files.specs.declared.inputs.files.FileKind.TheVariants.{Capture}
use Rattle.apd_files.specs.Held.{Held, Holds, HoldsKept, Lacks}
use Rattle.apd_words.specs.Asked.{text_of}
use Rattle.apd_program.specs.Evaluating.{IsKept, HasBadCodeInForce}
use Rattle.apd_program.specs.Faults.{IsMemoryOr, HasBadConfiguration, HasBadCode}
use Rattle.apd_program.proofs.Evaluated.{bad_configuration, bad_code, no_capture, bad_code_in_force}
use Rattle.apd_program.proofs.eval.gather.Goals as goal

pub returns-in_err-setting-clause-fault : goal.returns-in_err-setting-clause-fault
returns-in_err-setting-clause-fault g c =
    let bad : IfErr c.from_residual.result (IsMemoryOr (HasBadConfiguration (g.F.Files.held c.args.files.now) c.args.config.now)) = search rules in
    IfErr-weaker c.from_residual.result _ _ (λ e h. bad_configuration _ _ _ _ _ e h) bad

pub returns-in_err-code-clause-fault : goal.returns-in_err-code-clause-fault
returns-in_err-code-clause-fault g c =
    let bad : IfErr c.from_residual-in_err-code.result (IsMemoryOr (HasBadCode (g.F.Files.held c.configured.new.files) c.args.evaluation.subject.source.file.now)) = search rules in
    IfErr-weaker c.from_residual-in_err-code.result _ _ (λ e h. bad_code _ _ _ _ _ e _ c.configured.ensures.same h) bad

pub returns-in_err-capture-clause-fault : goal.returns-in_err-capture-clause-fault
returns-in_err-capture-clause-fault g c =
    let bad : IfErr c.from_residual-in_err-capture.result (IsMemoryOr (Lacks Capture (g.F.Files.held c.code.new.files) c.args.evaluation.capture.now)) = search rules in
    IfErr-weaker c.from_residual-in_err-capture.result _ _ (λ e h. no_capture _ _ _ _ _ e _ (c.code.ensures.same ∙ c.configured.ensures.same) h) bad

pub returns-in_err-in_force-clause-fault : goal.returns-in_err-in_force-clause-fault
returns-in_err-in_force-clause-fault g c =
    let bad : IfErr c.from_residual-in_err-in_force.result (IsMemoryOr (HasBadCodeInForce (g.F.Files.held c.read.new.files) (text_of c.args.evaluation.against))) = search rules in
    IfErr-weaker c.from_residual-in_err-in_force.result _ _ (λ e h. bad_code_in_force _ _ _ _ _ e _ (c.read.ensures.same ∙ (c.code.ensures.same ∙ c.configured.ensures.same)) h) bad

pub returns-clause-material : goal.returns-clause-material
returns-clause-material g c =
    let first = c.configured.ensures.same in
    let second = c.code.ensures.same ∙ first in
    let third = c.read.ensures.same ∙ second in
    let Kept : Held → Type 0 = λ f. HoldsKept (2 ^ 17) f c.args.evaluation.subject.source.file.now c.in_ok-code.code.items in
    let There : Held → Type 0 = λ f. Holds f c.args.evaluation.capture.now c.in_ok-capture.capture.items in
    let Old : Held → Type 0 = λ f. IsKept f (text_of c.args.evaluation.against) c.in_ok-in_force.in_force in
    record {
      setting = c.in_ok-setting.ensures.setting;
      kept = subst Kept first c.in_ok-code.ensures.code;
      there = subst There second c.in_ok-capture.ensures.there;
      in_force = subst Old third c.in_ok-in_force.ensures.code;
    }
