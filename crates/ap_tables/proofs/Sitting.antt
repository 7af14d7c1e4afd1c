-- Maps that keep their tables, and the seats at them.
use Rattle.std.proofs.Common.{◌≡◌, ◌<◌, ℕ, List, [], ◌∷◌, ◌++◌, length, take, slice_get, slice_set, Some, sym, ap, ◌∙◌, subst, arith}
use Rattle.std.proofs.Math.Seq.{take-append_seam}
use mathlib.Core.Logic.{dite}
use native.Mathlib.Decide.{ℕ_discrete}
use Rattle.std.proofs.lemmas.List.{length-set}
use Rattle.std.proofs.lemmas.Option.{slice_get_within}
use Rattle.bpf_regions.specs.declared.maps.Shape.{Shape}
use Rattle.bpf_regions.specs.declared.maps.Scope.{Scope}
use Rattle.bpf_regions.specs.declared.maps.Scope.TheVariants.{Shared, Worker}
use Rattle.shared_maps.specs.Tables.{Map, Place}
use Rattle.bpf_helpers.specs.Tables.{Tables, KeepsTables, AreSameTables, place_of, table_count}
use Rattle.bpf_helpers.specs.Sums.{AreSeated}
use Rattle.bpf_helpers.specs.Hooked.{HaveTables, KeepTables}
use Rattle.bpf_helpers.proofs.Keeping.{keep_all}
use Rattle.ap_rows.proofs.Standing.{stand_set, there_too, last_is, earlier}
use Rattle.ap_tables.specs.Stocks.{Stock, IsStocked, AreOperators}

-- the table that a worker uses exists
place_low : (scope : Scope) (worker workers : ℕ) → worker < workers → place_of scope worker < table_count scope workers
place_low Shared worker workers low = omega arith
place_low Worker worker workers low = low

-- each worker has its tables
pub have_tables : (s : Stock) → IsStocked s → (worker : ℕ) → worker < s.workers → HaveTables s.maps worker
have_tables s stocked worker low at m here =
    subst (λ (n : ℕ). place_of m.shape.scope worker < n) (sym (stocked.each at m here)) (place_low m.shape.scope worker s.workers low)

-- one map kept its tables
pub keep_set : (maps : List Tables) (at : ℕ) (m m' : Tables) → slice_get maps at ≡ Some m → KeepsTables m m' → KeepTables maps (slice_set maps at m')
keep_set maps at m m' here keeps = record {
  as_many = length-set maps at m';
  each = stand_set KeepsTables maps maps at m m' (slice_get_within maps at m here) here keeps (keep_all maps).each;
}

-- maps that keep their tables have as many tables
pub stocked_kept : (maps maps' : List Tables) (workers : ℕ) → KeepTables maps maps' → IsStocked (record { maps = maps; workers = workers }) → IsStocked (record { maps = maps'; workers = workers })
stocked_kept maps maps' workers keep stocked = record {
  some = stocked.some;
  each = λ at m' here.
      let was = there_too maps maps' at m' keep.as_many here in
      let kept : KeepsTables was.0 m' = keep.each at was.0 m' was.1 here in
      kept.tables.as_many ∙ (stocked.each at was.0 was.1 ∙ ap (λ (s : Shape). table_count s.scope workers) (sym kept.shape));
}

-- seats at tables that are kept
seated_kept : (tables tables' : List Map) (seats : List Place) → AreSameTables tables tables' → AreSeated tables seats → AreSeated tables' seats
seated_kept tables tables' seats same seated = (
  seated.0 ∙ sym same.as_many,
  λ at t' s here there.
      let was = there_too tables tables' at t' same.as_many here in
      seated.1 at was.0 s was.1 there ∙ sym (same.each at was.0 t' was.1 here).table,
)

-- an operator's seats, while the maps keep their tables
pub operators_kept : (maps maps' : List Tables) (seats : List (List Place)) → KeepTables maps maps' → AreOperators maps seats → AreOperators maps' seats
operators_kept maps maps' seats keep own = record {
  as_many = own.as_many ∙ sym keep.as_many;
  each = λ at m' s here there.
      let was = there_too maps maps' at m' keep.as_many here in
      let kept : KeepsTables was.0 m' = keep.each at was.0 m' was.1 here in
      seated_kept was.0.tables m'.tables s kept.tables (own.each at was.0 s was.1 there);
}

-- what holds of each map, and of one more
pub each_more : (P : Tables → Type 0) (maps maps' : List Tables) (m : Tables) → maps' ≡ maps ++ m ∷ [] → ((at : ℕ) (x : Tables) → slice_get maps at ≡ Some x → P x) → P m
    → (at : ℕ) (x : Tables) → slice_get maps' at ≡ Some x → P x
each_more P maps maps' m are each holds at x here' =
    let here : slice_get (maps ++ m ∷ []) at ≡ Some x = subst (λ (zs : List Tables). slice_get zs at ≡ Some x) are here' in
    dite (ℕ_discrete at (length maps)) (λ e. subst P (last_is maps m at x e here) holds) (λ ne. each at x (earlier maps m at x ne here))

-- maps after a call on all of them
pub stocked_back : (maps maps' more : List Tables) (len workers : ℕ) → len ≡ length maps → KeepTables maps maps' → IsStocked (record { maps = maps; workers = workers })
    → IsStocked (record { maps = take len (maps' ++ more); workers = workers })
stocked_back maps maps' more len workers many keep stocked =
    let whole : length maps' ≡ len = keep.as_many ∙ sym many in
    let are : maps' ≡ take len (maps' ++ more) = sym (subst (λ (n : ℕ). take n (maps' ++ more) ≡ maps') whole (take-append_seam maps' more)) in
    subst (λ (ms : List Tables). IsStocked (record { maps = ms; workers = workers })) are (stocked_kept maps maps' workers keep stocked)
