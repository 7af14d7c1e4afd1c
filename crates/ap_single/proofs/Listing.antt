-- Lists of several shards.
use Rattle.std.proofs.Common.{◌≤◌, ◌≡◌, ℕ, ◌+◌, ◌<◌, List, [], ◌∷◌, ◌++◌, length, map, take, sym, subst, ◌∙◌, ap}
use Rattle.std.specs.Prelude.{slice_index_or}
use Rattle.std.proofs.lemmas.List.{map_push, take_all, take_more}
use Rattle.ap_model.specs.Readings.{Readings}
use Rattle.ap_core.specs.declared.shard.Shard.{Shard}
use Rattle.ap_core.specs.Shards.{reads}
use Rattle.ap_core.specs.Listing.{Joins, one_more}

-- the list of the next shard comes at the end
pub joins_next : {X : Type 0} (Lists : Readings → List X → Type 0) (shards : List Shard) (at : ℕ) (shard : Shard) (rows more : List X) → at < length shards →
    shard ≡ slice_index_or shards at shard → Joins Lists (map reads (take at shards)) rows → Lists (reads shard) more →
    Joins Lists (map reads (take (at + 1) shards)) (rows ++ more)
joins_next Lists shards at shard rows more inside is joins lists =
    let first : map reads (take (at + 1) shards) ≡ map reads (take at shards) ++ reads shard ∷ [] =
    ap (map reads) (take_more shards at shard inside ∙ ap (λ (s : Shard). take at shards ++ s ∷ []) (sym is)) ∙ map_push reads (take at shards) shard in
    subst (λ (rs : List Readings). Joins Lists rs (rows ++ more)) (sym first) (one_more (map reads (take at shards)) (reads shard) rows more joins lists)

-- the lists of all shards
pub joins_all : {X : Type 0} (Lists : Readings → List X → Type 0) (shards : List Shard) (at : ℕ) (rows : List X) → length shards ≤ at →
    Joins Lists (map reads (take at shards)) rows → Joins Lists (map reads shards) rows
joins_all Lists shards at rows end joins = subst (λ (s : List Shard). Joins Lists (map reads s) rows) (take_all at shards end) joins
