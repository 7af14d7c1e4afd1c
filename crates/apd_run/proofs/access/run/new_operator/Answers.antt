use Rattle.std.proofs.Common.{◌<◌, ℕ, [], replicate, ap, refl, subst, sym, ◌∙◌}
use Rattle.apd_run.proofs.access.run.new_operator.Goals as goal

pub returns-clause-new : goal.returns-clause-new
returns-clause-new g c =
    record {
      some = subst (λ (n : ℕ). 0 < n) (sym c.workers.ensures.is) c.requires.some;
      nothing = c.requires.nothing;
      files_are = refl;
      limits_are = refl;
      link_is = refl;
      maps_are = refl;
      unput = c.requires.new.unput ∙ ap (λ (n : ℕ). replicate n []) (sym c.workers.ensures.is);
      untaken = c.requires.none;
      untold = refl;
      no_loads = c.requires.no_loads;
    }
