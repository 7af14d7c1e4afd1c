use Rattle.std.proofs.Common.{rules, ℕ, List, refl, ap, ◌∙◌}
use Rattle.arrayvec.specs.ArrayVec.{ArrayVec}
use Rattle.bpf_machine.specs.Runs.{setting_of, with_notes}
use Rattle.bpf_helpers.specs.Tables.{Tables}
use Rattle.apd_c.specs.Runs.{given_to}
use Rattle.apd_c.proofs.Running.{ran_over, fits_over}
use Rattle.apd_c.proofs.runs.run_over.Goals as goal

pub invariant_of-maps : goal.invariant_of-maps
invariant_of-maps c =
    let fits = fits_over _ _ c.run-exit.new.port (with_notes c.run-exit.result c.run-exit.new.self) c.run-exit.ensures.run (given_to c.args.maps.now c.args.given.now)
    (ap (λ (maps : List Tables). record { maps = maps; worker = 0; clock = c.args.given.now.clock; stations = c.args.given.now.stations }) c.maps.ensures.is) in
    record {
      for_maps = c.args.maps.now.for_maps;
      fitting = search (rules, fits);
      own = c.args.maps.now.own;
    }

pub returns : goal.returns
returns c =
    record {
      outcome = with_notes c.run-exit.result c.run-exit.new.self;
      ran = ran_over _ _ c.run-exit.new.port (with_notes c.run-exit.result c.run-exit.new.self) c.run-exit.ensures.run
          (setting_of c.args.accepted.now.code c.args.frame.now c.args.given.now.context) (given_to c.args.maps.now c.args.given.now)
          (ap (λ (x : List ℕ). setting_of c.args.accepted.now.code c.args.frame.now x) c.new-context.ensures.is)
          (ap (λ (maps : List Tables). record { maps = maps; worker = 0; clock = c.args.given.now.clock; stations = c.args.given.now.stations }) c.maps.ensures.is)
          _ (search rules);
      within = c.run-exit.ensures.within;
      r0 = c.tell.ensures.r0;
      steps = c.tell.ensures.steps;
      notes = c.tell.ensures.notes ∙ ap (λ (v : ArrayVec ℕ). v.items) c.notes.ensures.are;
      shapes = refl;
      tables = refl;
      hand = refl;
    }
