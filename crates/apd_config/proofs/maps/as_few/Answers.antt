use Rattle.std.proofs.Common.{◌≡◌, ◌<◌, Some, ap, sym, ◌∙◌, option_map, arith}
use Rattle.toml.specs.Data.{as_array}
use Rattle.toml.specs.View.{view, array_view}
use Rattle.apd_config.specs.Text.{count_items}
use Rattle.apd_config.proofs.MapLemmas.{are_maps-many, are_maps-none, count_items-view}
use Rattle.apd_config.proofs.maps.as_few.Goals as goal
use Rattle.apd_config.proofs.maps.as_few.Goals.{in_default-via-in-Some+else-len-le-MOST_MAPS, in_default-via-in_default}

pub returns-in_default-clause-none : goal.returns-in_default-clause-none
returns-in_default-clause-none c =
    elim c.in_default.branch [
      | in_default-via-in-Some+else-len-le-MOST_MAPS w ↦
          let is : as_array (view c.args.value.now) ≡ Some (array_view w.in-Some.maps.now) = sym c.as_array.ensures ∙ ap (option_map (λ v. array_view v.now)) w.in-Some.is in
          let many : 16 < count_items (array_view w.in-Some.maps.now) = omega (arith, count_items-view w.in-Some.maps.now.items) in
          are_maps-many _ _ is many
      | in_default-via-in_default w ↦ are_maps-none _ (sym c.as_array.ensures ∙ ap (option_map (λ v. array_view v.now)) w.in_default.is)
    ]
