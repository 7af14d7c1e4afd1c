use Rattle.std.proofs.Common.{◌≡◌, ◌∷◌, ◌++◌, [], List, ap, ◌∙◌, length, arith}
use Rattle.std.proofs.lemmas.List.{length_push}
use Rattle.std.proofs.lemmas.List.Elements.{All-same, All-push}
use Rattle.shared_maps.specs.Tables.{Map}
use Rattle.bpf_helpers.specs.Tables.{IsNew}
use Rattle.bpf_helpers.proofs.map_tables.MapTables.new.Goals as goal

pub loop-preserved : goal.loop-preserved
loop-preserved c =
    let table : Map = c.in_ok-table.table in
    let more : c.push.new.self.items ≡ c.loop.tables.items ++ table ∷ [] = c.in_default.ensures.items in
    record {
      shapes = All-same (λ (t : Map). t.shape ≡ c.args.shape) c.push.new.self.items (c.loop.tables.items ++ table ∷ []) more
          (All-push (λ (t : Map). t.shape ≡ c.args.shape) c.loop.tables.items table c.loop.invariant.shapes c.in_ok-table.ensures.shape);
      new = All-same (IsNew c.args.seats) c.push.new.self.items (c.loop.tables.items ++ table ∷ []) more
          (All-push (IsNew c.args.seats) c.loop.tables.items table c.loop.invariant.new (record { seats = c.in_ok-table.ensures.seats.0; given = c.in_ok-table.ensures.seats.1 }));
      count = omega (arith, ap length more, length_push c.loop.tables.items table, c.loop.invariant.count);
      seats = λ some. c.in_ok-table.ensures.in_limits;
    }
