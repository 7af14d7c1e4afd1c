use Rattle.std.proofs.Common.{rules, ◌≡◌, Some, codes}
use Rattle.std.proofs.lemmas.Result.{IfErr-weaker}
use Rattle.std.specs.Result.{IfErr}
use Rattle.toml.specs.Data.{array, get_member}
use Rattle.toml.specs.View.{array_view, table_view}
use Rattle.apd_config.specs.Text.{TellsOfItems}
use Rattle.apd_config.proofs.MapLemmas.{Tells-items, AreShapes-says}
use Rattle.apd_config.proofs.maps.shapes.Goals as goal

pub returns-in_err-shapes-clause-fault : goal.returns-in_err-shapes-clause-fault
returns-in_err-shapes-clause-fault c =
    let of_items : IfErr c.from_residual.result (TellsOfItems (array_view c.in-Some-as_few.maps.now)) = search rules in
    let there : get_member (codes "map") (table_view c.args.table.now) ≡ Some (array (array_view c.in-Some-as_few.maps.now)) = search rules in
    IfErr-weaker c.from_residual.result _ _ (λ f h. Tells-items _ _ f there h) of_items

pub as_shapes-requires-2 : goal.as_shapes-requires-2
as_shapes-requires-2 c = AreShapes-says _ _ c.in_ok-shapes.ensures.says c.in-Some-as_few.ensures.few
