use Rattle.std.proofs.Common.{◌∙◌, List, refl, sym, subst, ap}
use Rattle.bpf_helpers.specs.Hooked.{IsFitting}
use Rattle.bpf_helpers.specs.Tables.{Tables}
use Rattle.program_judge.specs.Programs.{Programs}
use Rattle.apd_eval.specs.Metered.{Metered}
use Rattle.apd_eval.specs.declared.tried.Policy.{Policy}
use Rattle.apd_eval.proofs.comparison.Comparison.contrasted.Goals as goal

pub new-contrasts-requires : goal.new-contrasts-requires
new-contrasts-requires c = record {
  fitting = subst (λ (m : Metered). IsFitting c.maps.result.now 0 m.held.seats) (sym c.new-meter.ensures.is)
      (subst (λ (maps : List Tables). IsFitting maps 0 c.args.tested.state.seats) (sym c.maps.ensures.is) c.args.tested.fitting);
}

pub returns : goal.returns
returns c = record {
  contrasted = record {
    before = c.new-contrasts.result;
    after = c.evaluate.new.sink;
    programs = ap (λ (p : Policy). p.programs.now) c.new-contrasts.ensures.policy;
    drawn = ap (λ (m : Metered). m.held.draw) c.new-contrasts.ensures.meter ∙ ap (λ (m : Metered). m.held.draw) c.new-meter.ensures.is;
    begun = c.new-contrasts.ensures.changes;
    taken = c.in_ok-evaluate.ensures.rows;
    is = refl;
  };
}
