use Rattle.std.proofs.Common.{◌≡◌, ◌<◌, List, Some, length, get_or, slice_get, slice_set, ap, sym, ◌∙◌, arith}
use Rattle.std.proofs.lemmas.List.{length-set, length_push}
use Rattle.std.proofs.lemmas.Option.{slice_get-get_or}
use Rattle.bpf_helpers.specs.Tables.{Tables}
use Rattle.bpf_helpers.proofs.Keeping.{tables_kept, keep_further, gave_keep, seated_more}
use Rattle.bpf_helpers.proofs.worker.WorkerState.seated.Goals as goal

pub seat-requires : goal.seat-requires
seat-requires c =
    let maps : List Tables = c.loop-map.maps in
    let low : c.loop-map.map-index < length maps = omega arith in
    record {
      there = tables_kept c.args.maps.now maps c.loop-map.invariant.tables c.args.worker c.requires.there c.loop-map.map-index
          (get_or maps c.loop-map.map-index c.map-item.result) (slice_get-get_or maps c.loop-map.map-index c.map-item.result low);
    }

pub loop-map-preserved : goal.loop-map-preserved
loop-map-preserved c =
    let maps : List Tables = c.loop-map.maps in
    let low : c.loop-map.map-index < length maps = omega arith in
    let m : Tables = get_or maps c.loop-map.map-index c.map-item.result in
    let here : slice_get maps c.loop-map.map-index ≡ Some m = slice_get-get_or maps c.loop-map.map-index c.map-item.result low in
    let count : length c.loop-map.seats.items ≡ c.loop-map.map-index = c.loop-map.invariant.count in
    record {
      tables = keep_further c.args.maps.now maps (slice_set maps c.loop-map.map-index c.seat.new.self) c.loop-map.invariant.tables
          (gave_keep maps c.loop-map.map-index m c.seat.new.self c.args.worker c.in_ok-seat.seat here c.in_ok-seat.ensures.given);
      sat = seated_more maps c.loop-map.map-index m c.seat.new.self c.args.worker c.in_ok-seat.seat c.loop-map.seats.items c.push_reserved.new.self.items here c.in_ok-seat.ensures.given
          (sym count) c.push_reserved.ensures.items c.loop-map.invariant.sat;
      count = omega (arith, ap length c.push_reserved.ensures.items, length_push c.loop-map.seats.items c.in_ok-seat.seat, count);
      room = c.push_reserved.ensures.capacity ∙ (c.loop-map.invariant.room ∙ sym (length-set maps c.loop-map.map-index c.seat.new.self));
    }

pub returns-clause-fitting : goal.returns-clause-fitting
returns-clause-fitting c = (
  tables_kept c.args.maps.now c.loop-map.maps c.loop-map.invariant.tables c.args.worker c.requires.there,
  (omega (arith, c.loop-map.invariant.count), c.loop-map.invariant.sat.own),
)
