use Rattle.std.proofs.Common.{◌≡◌, ◌+◌, ◌∷◌, ◌++◌, [], List, length, take, ap, sym, ◌∙◌, arith}
use Rattle.std.proofs.lemmas.Grind.{common_steps}
use Rattle.std.proofs.lemmas.List.{map-append}
use Rattle.bpf_regions.specs.declared.maps.Shape.{Shape}
use Rattle.bpf_helpers.specs.Tables.{Tables, table_count}
use Rattle.bpf_helpers.specs.Hooked.{shapes_of}
use Rattle.ap_tables.proofs.Sitting.{each_more}
use Rattle.ap_tables.proofs.tables.ApTables.new.Goals as goal

pub loop-shape-preserved : goal.loop-shape-preserved
loop-shape-preserved c =
    let old : List Tables = c.loop-shape.maps.items in
    let m : Tables = c.in-Ok.map in
    let more : shapes_of c.push.new.self.items ≡ shapes_of old ++ m.shape ∷ [] = ap shapes_of c.in_ok-push.ensures.items ∙ map-append (λ (x : Tables). x.shape) old (m ∷ []) in
    let next : take (c.loop-shape.shape-index + 1) c.args.shapes.now ≡ take c.loop-shape.shape-index c.args.shapes.now ++ m.shape ∷ [] = grind (arith, common_steps, c.in-Ok.ensures.shape) in
    record {
      shapes = more ∙ (ap (λ (l : List Shape). l ++ m.shape ∷ []) c.loop-shape.invariant.shapes ∙ sym next);
      counts = each_more (λ (x : Tables). length x.tables ≡ table_count x.shape.scope c.args.workers) old c.push.new.self.items m c.in_ok-push.ensures.items c.loop-shape.invariant.counts
          (c.in-Ok.ensures.count ∙ ap (λ (s : Shape). table_count s.scope c.args.workers) (sym c.in-Ok.ensures.shape));
    }
