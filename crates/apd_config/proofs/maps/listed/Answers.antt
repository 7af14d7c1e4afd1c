use Rattle.std.proofs.Common.{rules}
use Rattle.std.proofs.lemmas.Result.{IfErr-weaker}
use Rattle.std.specs.Result.{IfErr}
use Rattle.toml.specs.View.{view}
use Rattle.apd_config.specs.Text.{TellsOfItem}
use Rattle.apd_config.proofs.MapLemmas.{TellsOfItems-item, SaysShapes-push, item_at, items_more}
use Rattle.apd_config.proofs.maps.listed.Goals as goal

pub returns-in_err-shape-clause-fault : goal.returns-in_err-shape-clause-fault
returns-in_err-shape-clause-fault c =
    let of_item : IfErr c.from_residual.result (TellsOfItem (view c.map-item.result) c.loop-number.number) = search rules in
    let there = item_at c.args.maps.now.items _ c.loop-number.number c.map-item.result c.deref-map-items.ensures.value c.loop-number-test.true c.map-item.is in
    IfErr-weaker c.from_residual.result _ _ (λ f h. TellsOfItems-item _ _ _ f there h) of_item

pub loop-number-preserved : goal.loop-number-preserved
loop-number-preserved c =
    let more = items_more c.args.maps.now.items _ c.loop-number.number c.map-item.result c.deref-map-items.ensures.value c.loop-number-test.true c.map-item.is in
    rw (more, c.in_ok-push.ensures.items) (SaysShapes-push _ _ _ _ c.loop-number.invariant c.in_ok-shape.ensures.says)
