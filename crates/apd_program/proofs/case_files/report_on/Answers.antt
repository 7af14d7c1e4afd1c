use Rattle.std.proofs.Common.{rules, ℕ, List, [], get_or, refl, subst}
use Rattle.std.specs.Borrow.{Bor}
use Rattle.std.specs.Result.{IfErr}
use Rattle.std.proofs.lemmas.Result.{IfErr-weaker}
use Rattle.apd_files.specs.Held.{Held}
use Rattle.apd_program.specs.Faults.{IsMemoryOr}
use Rattle.apd_program.specs.Testing.{HasNoTest, NoFile}
use Rattle.apd_program.proofs.Tested.{one_at_fault}
use Rattle.apd_program.proofs.case_files.report_on.Goals as goal

pub loop-path-init : goal.loop-path-init
loop-path-init g c = record {
  covers = record { trials = []; tried = NoFile; is = c.new-report.ensures.empty };
  same = refl;
}

pub returns-in_err-add_file-clause-fault : goal.returns-in_err-add_file-clause-fault
returns-in_err-add_file-clause-fault g c =
    let files = g.F.Files.held c.args.files.now in
    let beyond : Bor (List ℕ) = record { ref_ptr = (0, 0); now = [] } in
    let path = (get_or c.args.paths.now c.loop-path.path-index beyond).now in
    let bad : IfErr c.from_residual.result (IsMemoryOr (HasNoTest (g.F.Files.held c.loop-path.files) path)) = search rules in
    IfErr-weaker c.from_residual.result _ _ (λ e h. one_at_fault files c.args.paths.now c.loop-path.path-index beyond e c.loop-path-test.true
    (subst (λ (held : Held). IsMemoryOr (HasNoTest held path) e) c.loop-path.invariant.same h)) bad
