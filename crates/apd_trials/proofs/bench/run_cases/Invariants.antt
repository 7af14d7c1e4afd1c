use Rattle.std.proofs.Common.{◌≡◌, take}
use Rattle.apd_trials.specs.Rows.{Leads}
use Rattle.apd_trials.specs.Running.{stands, IsBench}
use Rattle.apd_cases.specs.Said.{lines_said}
use Rattle.apd_trials.proofs.bench.run_cases.Given as goal

abbrev pub invariant-loop-numbered : goal.invariant-loop-numbered
invariant-loop-numbered g l = record {
  fits : IsBench (g.F.Files.held l.fn.files) l.bench;
  leads : Leads (g.F.Files.held l.fn.files) (lines_said (take l.numbered-index l.lines)) (stands l.bench) l.rows.items;
  files : g.F.Files.held l.files ≡ g.F.Files.held l.fn.files;
}
