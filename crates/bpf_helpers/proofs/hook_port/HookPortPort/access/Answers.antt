use Rattle.std.proofs.Common.{◌≡◌, slice_get, get_or, Some, refl}
use Rattle.bpf_helpers.specs.Tables.{Tables}
use Rattle.bpf_helpers.proofs.Fitting.{map_found, table_found, inside, in_range, fit_still}
use Rattle.bpf_helpers.proofs.hook_port.HookPortPort.access.Goals as goal

pub access-requires-clause-own : goal.access-requires-clause-own
access-requires-clause-own c =
    let port = c.args.self.now in
    let m : Tables = get_or port.view.maps.now c.args.map c.index-self-at.result in
    let here : slice_get port.view.maps.now c.args.map ≡ Some m = map_found port.view.maps.now port.view.worker c.args.map c.args.word c.index-self-at.result c.requires.there in
    λ s there. port.fitting.1.1 c.args.map c.table-table.result.now s (table_found port.view.maps.now port.view.worker c.args.map m c.table-table.result.now here c.table-table.ensures.is) there

pub access-requires-clause-inside : goal.access-requires-clause-inside
access-requires-clause-inside c =
    let port = c.args.self.now in
    let m : Tables = get_or port.view.maps.now c.args.map c.index-self-at.result in
    let here : slice_get port.view.maps.now c.args.map ≡ Some m = map_found port.view.maps.now port.view.worker c.args.map c.args.word c.index-self-at.result c.requires.there in
    inside port.view.maps.now port.view.worker c.args.map c.args.word m c.table-table.result.now.shape here c.table-table.ensures.shape c.requires.there

pub invariant_of-self : goal.invariant_of-self
invariant_of-self c = record {
  fitting = fit_still c.args.self.now.view.maps.now c.args.self.now.view.worker c.args.self.now.state.now.seats c.access.new.self.seats c.table-table.result.now c.args.map c.args.word c.args.op c.access.result
      c.args.self.now.fitting c.access.ensures.made;
}

pub returns-clause-gives : goal.returns-clause-gives
returns-clause-gives c =
    let port = c.args.self.now in
    let m : Tables = get_or port.view.maps.now c.args.map c.index-self-at.result in
    let here : slice_get port.view.maps.now c.args.map ≡ Some m = map_found port.view.maps.now port.view.worker c.args.map c.args.word c.index-self-at.result c.requires.there in (
      record { view = refl; state = refl },
      (
        record {
          table = c.table-table.result.now;
          table_is = table_found port.view.maps.now port.view.worker c.args.map m c.table-table.result.now here c.table-table.ensures.is;
          made = c.access.ensures.made;
        },
        c.access.ensures.draw,
      ),
    )

pub returns-clause-in_range : goal.returns-clause-in_range
returns-clause-in_range c =
    let port = c.args.self.now in
    let m : Tables = get_or port.view.maps.now c.args.map c.index-self-at.result in
    let here : slice_get port.view.maps.now c.args.map ≡ Some m = map_found port.view.maps.now port.view.worker c.args.map c.args.word c.index-self-at.result c.requires.there in
    in_range port.view.maps.now port.view.worker c.args.map m c.table-table.result.now.shape c.args.op c.access.result here c.table-table.ensures.shape c.access.ensures.in_range
