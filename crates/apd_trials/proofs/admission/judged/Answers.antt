use Rattle.std.proofs.lemmas.Result.{IfOk-weaker}
use Rattle.apd_trials.specs.Policies.{Undecoded, Decoded}
use Rattle.apd_trials.proofs.admission.judged.Goals as goal

pub returns-in-Ok : goal.returns-in-Ok
returns-in-Ok c = record {
  says = IfOk-weaker c.verified.result _ _ (λ a h. Decoded c.in-Ok.program a c.in-Ok.ensures.ok c.in-Ok.ensures.shapes h) c.verified.ensures.says;
}

pub returns-in-Err : goal.returns-in-Err
returns-in-Err c = record {
  says = IfOk-weaker c.undecoded.result _ _ (λ a h. rw h.0 (Undecoded c.in-Err.fault h.1 c.in-Err.ensures.err)) c.undecoded.ensures.fault;
}
