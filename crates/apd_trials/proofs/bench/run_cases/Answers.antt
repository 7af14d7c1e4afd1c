use Rattle.std.proofs.Common.{[], refl, sym, subst}
use Rattle.apd_trials.specs.Rows.{Leads, NoLine}
use Rattle.apd_trials.specs.Running.{stands}
use Rattle.apd_trials.proofs.Blaming.{blamed_in}
use Rattle.apd_trials.proofs.Leading.{unasked}
use Rattle.apd_trials.proofs.bench.run_cases.Goals as goal

pub loop-numbered-init : goal.loop-numbered-init
loop-numbered-init g c =
    let files = g.F.Files.held c.args.files.now in
    record {
      fits = unasked c.start-bench.result.admission _ c.start-bench.ensures.unasked;
      leads = subst (λ r. Leads files [] (stands c.start-bench.result) r) (sym c.new-rows.ensures.items)
          (subst (λ s. Leads files [] s []) (sym c.start-bench.ensures.start) NoLine);
      files = refl;
    }

pub returns-in-Err-clause-blamed : goal.returns-in-Err-clause-blamed
returns-in-Err-clause-blamed g c = blamed_in _ _ c.numbered-item.result _ c.loop-numbered-test.true c.numbered-item.is c.blamed_line-line.ensures.is
