-- One load of a word from each of several tables.
use Rattle.std.specs.Prelude.{◌≡◌, ◌<◌, ℕ, List, [], ◌∷◌, length, slice_get, Some}
use Rattle.bpf_regions.specs.declared.maps.Shape.{Shape}
use Rattle.bpf_regions.specs.declared.maps.MapOp.TheVariants.{Load}
use Rattle.bpf_regions.specs.Maps.{word_count}
use Rattle.shared_maps.specs.Seats.{Extends}
use Rattle.shared_maps.specs.Tables.{Map, Place}

-- one seat of each table, in order
abbrev pub AreSeated : List Map → List Place → Type 0
AreSeated tables seats =
    (length seats ≡ length tables)
    × ((at : ℕ) (t : Map) (s : Place) → slice_get tables at ≡ Some t → slice_get seats at ≡ Some s → s.table ≡ t.table)

-- the same for tables that all have this word, table by table
abbrev pub HaveWord : ℕ → List Map → List Place → Type 0
HaveWord word [] [] = Unit {0}
HaveWord word (t ∷ ts) (s ∷ ss) = (s.table ≡ t.table) × (word < word_count t.shape) × HaveWord word ts ss
HaveWord word _ _ = ⊥

-- each table answered one load by its seat, in order
abbrev pub Loads : ℕ → List Map → List Place → List ℕ → List Place → Type 0
Loads word [] [] [] [] = Unit {0}
Loads word (t ∷ ts) (s ∷ ss) (n ∷ ns) (s' ∷ ss') = (s'.table ≡ s.table) × Extends t.shape s.known word Load n s'.known × Loads word ts ss ns ss'
Loads word _ _ _ _ = ⊥
