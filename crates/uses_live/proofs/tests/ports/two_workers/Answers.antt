use Rattle.std.proofs.Common.{◌∙◌, arith}
use Rattle.bpf_helpers.proofs.Keeping.{fitting_kept, shapes_kept, tables_kept}
use Rattle.uses_live.proofs.tests.ports.two_workers.Goals as goal

pub seated-other-requires : goal.seated-other-requires
seated-other-requires g c = record {
  there = tables_kept c.one_map-maps.result c.seated-one.new.maps c.seated-one.ensures.tables 1 (c.one_map-maps.ensures.tables 1 (omega arith));
}

pub invariant_of-result : goal.invariant_of-result
invariant_of-result g c = record {
  one_fits = fitting_kept c.seated-one.new.maps c.seated-other.new.maps c.seated-other.ensures.tables 0 c.seated-one.result.seats c.seated-one.ensures.fitting;
  other_fits = c.seated-other.ensures.fitting;
}

pub returns : goal.returns
returns g c = record {
  shapes = shapes_kept c.seated-one.new.maps c.seated-other.new.maps c.seated-other.ensures.tables
      ∙ (shapes_kept c.one_map-maps.result c.seated-one.new.maps c.seated-one.ensures.tables ∙ c.one_map-maps.ensures.shapes);
}
