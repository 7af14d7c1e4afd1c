-- A worker's report on a line, by `apd_driver`.

pub use Rattle.apd_driver.specs.declared.reports.report.Report.{Report}
pub use Rattle.apd_driver.specs.declared.reports.report.Told.{Told}
pub use Rattle.apd_driver.specs.declared.reports.report.Told.TheVariants.{Handled, Memory}
