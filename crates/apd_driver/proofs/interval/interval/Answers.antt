use Rattle.apd_driver.proofs.Ahead.{begun_whole}
use Rattle.apd_driver.proofs.Broken.{on_err}
use Rattle.apd_driver.proofs.interval.interval.Goals as goal

pub returns-in_err-answered-clause-breaks : goal.returns-in_err-answered-clause-breaks
returns-in_err-answered-clause-breaks g c =
    on_err _ _ (begun_whole c.args.setting.now.manner.form (g.P.Write.contents c.args.writer.now) (g.P.Write.contents c.tell.new.self) c.args.before.reports.items
    (rw c.tell.ensures.output c.in_ok-print_answered.ensures.prints))
