use Rattle.apd_trials.specs.Running.{stands}
use Rattle.apd_trials.proofs.Leading.{row_of}
use Rattle.apd_trials.proofs.bench.Bench.row.Goals as goal

pub returns-clause-row : goal.returns-clause-row
returns-clause-row g c = λ bench.
    row_of (g.F.Files.held c.args.files.now) (stands c.args.self.now) (stands c.judge.new.self) c.judge.new.self.admission _
    c.in_ok-judge.ensures.same c.in_ok-judge.ensures.asked (c.in_ok-judge.ensures.fits bench) c.in_ok-found.ensures.found
