use Rattle.std.proofs.Common.{◌≡◌, ◌<◌, List, Some, length, get_or, slice_get, slice_set, ap, sym, subst, ◌∙◌, arith}
use Rattle.std.proofs.lemmas.List.{length-set, length_push}
use Rattle.std.proofs.lemmas.Option.{slice_get-get_or}
use Rattle.shared_maps.specs.Tables.{Place}
use Rattle.bpf_helpers.specs.Tables.{Tables}
use Rattle.bpf_helpers.proofs.Keeping.{keep_further}
use Rattle.ap_rows.proofs.Standing.{put_there, stand_left, stand_push}
use Rattle.ap_tables.specs.Stocks.{SitsAt}
use Rattle.ap_tables.proofs.Sitting.{keep_set}
use Rattle.ap_tables.proofs.tables.seats_of_all.Goals as goal

pub returns-in_err-seats-clause-tables : goal.returns-in_err-seats-clause-tables
returns-in_err-seats-clause-tables c =
    let maps : List Tables = c.loop-map.maps in
    let low : c.loop-map.map-index < length maps = omega arith in
    let m : Tables = get_or maps c.loop-map.map-index c.map-item.result in
    let here : slice_get maps c.loop-map.map-index ≡ Some m = slice_get-get_or maps c.loop-map.map-index c.map-item.result low in
    keep_further c.args.maps.now maps (slice_set maps c.loop-map.map-index c.seat_each.new.self) c.loop-map.invariant.tables
    (keep_set maps c.loop-map.map-index m c.seat_each.new.self here c.seat_each.ensures.tables)

pub loop-map-preserved : goal.loop-map-preserved
loop-map-preserved c =
    let maps : List Tables = c.loop-map.maps in
    let low : c.loop-map.map-index < length maps = omega arith in
    let m : Tables = get_or maps c.loop-map.map-index c.map-item.result in
    let m' : Tables = c.seat_each.new.self in
    let maps' : List Tables = slice_set maps c.loop-map.map-index m' in
    let here : slice_get maps c.loop-map.map-index ≡ Some m = slice_get-get_or maps c.loop-map.map-index c.map-item.result low in
    let all : List (List Place) = c.loop-map.all.items in
    let count : length all ≡ c.loop-map.map-index = c.loop-map.invariant.count in
    let there : slice_get maps' (length all) ≡ Some m' = subst (λ (n : _). slice_get maps' n ≡ Some m') (sym count) (put_there maps c.loop-map.map-index m' low) in
    let sits : SitsAt m' c.new.result = subst (SitsAt m') (sym c.new.ensures.is) c.in_ok-seats.ensures.seated in
    record {
      tables = keep_further c.args.maps.now maps maps' c.loop-map.invariant.tables (keep_set maps c.loop-map.map-index m m' here c.seat_each.ensures.tables);
      sat = stand_push SitsAt maps' all c.push_reserved.new.self.items m' c.new.result there c.push_reserved.ensures.items sits
          (stand_left SitsAt maps all c.loop-map.map-index m' (omega arith) c.loop-map.invariant.sat);
      count = omega (arith, ap length c.push_reserved.ensures.items, length_push all c.new.result, count);
      room = c.push_reserved.ensures.capacity ∙ (c.loop-map.invariant.room ∙ sym (length-set maps c.loop-map.map-index m'));
    }
