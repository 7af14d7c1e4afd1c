use Rattle.std.proofs.Common.{◌≡◌, rules, refl, sym, subst, ap, ◌∙◌, length}
use Rattle.bpf_decode.specs.Program.{Code}
use Rattle.apd_driver.specs.declared.reports.report.Told.TheVariants.{Loaded}
use Rattle.apd_run.specs.Loading.{PutsInForce, InForce, NoRoomToPut}
use Rattle.apd_run.proofs.loads.programs.Loads.put_in_force.Goals as goal

pub returns-in_default : goal.returns-in_default
returns-in_default g c = NoRoomToPut refl

pub returns-in-Ok-publish : goal.returns-in-Ok-publish
returns-in-Ok-publish g c =
    let many : c.len-slots.result ≡ length c.args.accepted.code.slots =
    c.len-slots.ensures.is ∙ ap (λ (code : Code). length code.slots) c.program.ensures.is in
    subst (λ n. PutsInForce c.args.hook c.args.accepted c.args.self.now c.publish.new.self (Loaded c.budget-budget.result n)) (sym many)
    (subst (λ b. PutsInForce c.args.hook c.args.accepted c.args.self.now c.publish.new.self (Loaded b (length c.args.accepted.code.slots))) (sym c.budget-budget.ensures.is)
    (InForce (record {
      accepted = c.args.accepted;
      code_is = refl;
      hook_is = c.requires.hook_is;
      budget_is = refl;
      safe = rw c.budget-budget.ensures.is at c.budget-budget.ensures.safe;
      loaded = search rules;
    })))

pub returns-in-Err-NoMemory : goal.returns-in-Err-NoMemory
returns-in-Err-NoMemory g c = NoRoomToPut (search rules)
