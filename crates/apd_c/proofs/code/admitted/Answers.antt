use Rattle.std.proofs.Common.{rules, inr}
use Rattle.apd_c.proofs.code.admitted.Goals as goal

pub returns-in-Ok-verified-clause-ok : goal.returns-in-Ok-verified-clause-ok
returns-in-Ok-verified-clause-ok c =
    let same = c.in-Ok-verified.ensures.code in
    record {
      spells = rw same c.in-Ok.ensures.ok;
      shapes_are = rw same c.in-Ok.ensures.shapes;
      hook_is = c.in-Ok-verified.ensures.hook;
      safe = rw same c.in-Ok-verified.ensures.budget.safe;
      small = c.in-Ok-verified.ensures.budget.small;
    }

pub returns-in-Err-verified-clause-err : goal.returns-in-Err-verified-clause-err
returns-in-Err-verified-clause-err c =
    inr (record {
      program = c.in-Ok.program;
      spells = c.in-Ok.ensures.ok;
      shapes_are = c.in-Ok.ensures.shapes;
      refusal = c.in-Err-verified.refusal;
      why = c.in-Err-verified.ensures.refused;
      number = search rules;
      slot = search rules;
    })
