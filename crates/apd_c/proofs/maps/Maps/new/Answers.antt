use Rattle.std.proofs.Common.{sym, ◌∙◌}
use Rattle.bpf_helpers.proofs.Keeping.{fitting_kept, shapes_kept}
use Rattle.apd_c.proofs.maps.Maps.new.Goals as goal

pub invariant_of-result : goal.invariant_of-result
invariant_of-result c =
    let first = c.in_ok-hand.ensures.tables in
    let second = c.in_ok-state.ensures.tables in
    record {
      for_maps = sym (shapes_kept _ _ second ∙ shapes_kept _ _ first ∙ c.in_ok-tables.ensures.shapes);
      fitting = c.in_ok-state.ensures.fitting;
      own = fitting_kept _ _ second _ _ c.in_ok-hand.ensures.fitting;
    }
