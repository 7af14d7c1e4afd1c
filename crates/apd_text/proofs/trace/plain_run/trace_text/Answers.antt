use Rattle.std.proofs.Common.{◌≡◌, ◌∙◌, ap, List, ◌++◌}
use Rattle.bpf_machine.specs.declared.outcome.Step.{Step}
use Rattle.apd_text.specs.Trace.{Gives}
use Rattle.apd_text.proofs.Standing.{Traced-stands}
use Rattle.apd_text.proofs.trace.plain_run.trace_text.Goals as goal

pub returns : goal.returns
returns c =
    let found = c.in_ok-outcome.ensures.run in
    let made : List Step = found.0 in
    let log : c.as_slice.result.now ≡ made = c.as_slice.ensures.value ∙ found.1 ∙ ap (λ l. l ++ made) c.new-log.ensures.items in
    let run = rw (c.in_ok-port.ensures.is, c.shapes.ensures.is, c.program-program.ensures.is) at found.2 in
    record {
      is = record {
        port = c.trace.new.port;
        log = made;
        outcome = c.in_ok-outcome.outcome;
        run = run;
        begins = Traced-stands Gives _ _ _ made c.in_ok-outcome.outcome run;
        within = c.in_ok-outcome.ensures.within;
        is = rw (log, c.program-program.ensures.is) at c.in_ok-text.ensures.is;
      };
    }
