use Rattle.std.proofs.Common.{sym, subst}
use Rattle.apd_program.specs.Testing.{IsTried}
use Rattle.apd_program.proofs.Tested.{covers_more}
use Rattle.apd_program.proofs.case_files.add_file.Goals as goal

pub returns-clause-covers : goal.returns-clause-covers
returns-clause-covers g c =
    let files = g.F.Files.held c.args.files.now in
    covers_more files c.args.path.now c.as_str.result.now c.as_slice.result.now c.args.report.now c.add.new.self
    (subst (IsTried files c.args.path.now) (sym c.as_slice.ensures.value) c.in_ok-rows.ensures.tried) c.in_ok-add.ensures.added
