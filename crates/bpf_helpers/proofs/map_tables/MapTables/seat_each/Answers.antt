use Rattle.std.proofs.Common.{◌≡◌, ◌++◌, ℕ, List, length, take, drop, ap, sym, ◌∙◌, subst}
use Rattle.std.proofs.Math.Seq.{take-append_seam}
use Rattle.std.specs.List.{All}
use Rattle.shared_maps.specs.Tables.{Map}
use Rattle.bpf_helpers.specs.Tables.{AreSameTables}
use Rattle.bpf_helpers.proofs.Keeping.{shapes_still}
use Rattle.bpf_helpers.proofs.map_tables.MapTables.seat_each.Goals as goal

pub invariant_of-self : goal.invariant_of-self
invariant_of-self c =
    let tables : List Map = c.seat_each.new.tables in
    let same : AreSameTables c.self.inside.tables.items tables = subst (λ (ts : List Map). AreSameTables ts tables) c.as_mut_slice.ensures.value c.seat_each.ensures.tables in
    let more : List Map = drop (length tables) c.self.inside.tables.items in
    let many : length tables ≡ c.self.inside.tables.len = same.as_many ∙ (ap length (sym c.as_mut_slice.ensures.value) ∙ c.as_mut_slice.ensures.len) in
    let are : tables ≡ take c.self.inside.tables.len (tables ++ more) = sym (subst (λ (n : ℕ). take n (tables ++ more) ≡ tables) many (take-append_seam tables more)) in
    record {
      valid = c.self.invariant.valid;
      each = subst (All (λ (t : Map). t.shape ≡ c.self.inside.shape)) are (shapes_still c.self.inside.shape c.self.inside.tables.items tables same c.self.invariant.each);
    }
