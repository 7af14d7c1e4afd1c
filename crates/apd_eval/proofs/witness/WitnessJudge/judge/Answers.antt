use Rattle.std.proofs.Common.{refl}
use Rattle.apd_eval.proofs.witness.WitnessJudge.judge.Goals as goal

pub returns : goal.returns
returns c = record {
  keeps = record { programs = c.rule-ruling.ensures.keeps.programs; view = c.rule-ruling.ensures.keeps.view; state = c.rule-ruling.ensures.keeps.state };
  given = record { ruling = c.rule-ruling.result; last = refl; verdict_is = refl; is = c.rule-ruling.ensures.ruling };
  listed = rw c.rule-ruling.ensures.asked at c.note.ensures;
}
