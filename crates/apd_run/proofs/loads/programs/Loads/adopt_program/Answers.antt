use Rattle.std.proofs.Common.{length, subst, ◌∙◌}
use Rattle.versions.specs.Lists.{Beginning}
use Rattle.apd_driver.specs.declared.reports.report.Told.{Told}
use Rattle.apd_driver.specs.declared.reports.report.Told.TheVariants.{Loaded}
use Rattle.apd_run.specs.Adopting.{AdoptsProgram, NoRoomToAdopt}
use Rattle.apd_run.proofs.Putting.{adopted, not_adopted}
use Rattle.apd_run.proofs.loads.programs.Loads.adopt_program.Goals as goal

pub returns-in-Ok : goal.returns-in-Ok
returns-in-Ok g c =
    let added = c.in-Ok.ensures.added in
    let told : Told = Loaded c.in-Ok.budget (length c.args.program.slots) in
    rw c.len-slots.ensures.is
    (subst (λ (old : Beginning). AdoptsProgram c.args.work c.args.hook c.args.program c.args.certificate.now old c.publish_checked_within.new.publisher told) c.self.view_is
    (adopted _ _ _ _ _ _ c.in-Ok.budget added.shown added.safe added.is))

pub returns-in-Err-Certificate : goal.returns-in-Err-Certificate
returns-in-Err-Certificate g c =
    let fault = c.in-Err-Certificate.fault in
    rw c.not_certified.ensures
    (not_adopted _ c.self.inside.publisher (record { program = c.args.program; hook = c.args.hook; certificate = c.args.certificate }) _ _ fault (rw c.in-Err-Certificate.field-0-is at c.in-Err-Certificate.ensures.why) (c.in-Err-Certificate.ensures.refused ∙ c.self.view_is))

pub returns-in-NoMemory : goal.returns-in-NoMemory
returns-in-NoMemory g c = NoRoomToAdopt (c.in-Err-Publication.ensures.refused ∙ c.self.view_is)
