-- Maps whose tables stay the same ones.
use Rattle.std.proofs.Common.{◌≡◌, ◌≢◌, ◌<◌, ◌≤◌, ◌+◌, ◌⊎◌, ℕ, suc, List, [], ◌∷◌, ◌++◌, length, map, set, slice_get, slice_set, get_or, Option, Some, None, option_and_then, option_map, refl, sym, ap, ◌∙◌, subst, ⊎_elim, arith}
use Rattle.std.specs.List.{All}
use Rattle.std.proofs.lemmas.List.{length-set, length_push, get_or_push, get_or_append_left}
use Rattle.std.proofs.lemmas.Option.{slice_get_within, slice_get-get_or, get_or_from_slice_get, slice_get-map, slice_get_cases}
use mathlib.Core.Logic.{dite}
use native.Mathlib.Decide.{ℕ_discrete}
use Rattle.bpf_regions.specs.declared.maps.Shape.{Shape}
use Rattle.shared_maps.specs.Tables.{Map, Place}
use Rattle.bpf_helpers.specs.Tables.{Tables, IsSameTable, AreSameTables, KeepsTables, GaveSeat, seated, place_of, table_of}
use Rattle.bpf_helpers.specs.Hooked.{table_at, shapes_of, HaveTables, AreSeats, IsFitting, KeepTables}
use Rattle.bpf_helpers.proofs.Asked.{same_value, put_here}
use Rattle.bpf_helpers.proofs.Fitting.{untouched}

-- lists of equal length have the same indices
there_too : {A B : Type 0} (xs : List A) (ys : List B) (at : ℕ) (y : B) → length ys ≡ length xs → slice_get ys at ≡ Some y → (x : A) × (slice_get xs at ≡ Some x)
there_too {A} {B} xs ys at y same here = ⊎_elim
    (λ (there : (x : A) × (at < length xs) × (slice_get xs at ≡ Some x) × (get_or xs at x ≡ x)). (there.0, there.2))
    (λ (past : (length xs ≤ at) × (slice_get xs at ≡ None)). let low : at < length ys = slice_get_within ys at y here in absurd (omega arith))
    (slice_get_cases xs at).1

module _ (maps maps' : List Tables) (keep : KeepTables maps maps') where
  -- the map before
  before : (at : ℕ) (m' : Tables) → slice_get maps' at ≡ Some m' → (m : Tables) × (slice_get maps at ≡ Some m)
  before at m' here = there_too maps maps' at m' keep.as_many here

  pub tables_kept : (worker : ℕ) → HaveTables maps worker → HaveTables maps' worker
  tables_kept worker have at m' here =
      let was = before at m' here in
      let kept : KeepsTables was.0 m' = keep.each at was.0 m' was.1 here in
      let low : place_of was.0.shape.scope worker < length was.0.tables = have at was.0 was.1 in
      let low' : place_of m'.shape.scope worker < length was.0.tables = subst (λ (s : Shape). place_of s.scope worker < length was.0.tables) (sym kept.shape) low in
      let many : length m'.tables ≡ length was.0.tables = kept.tables.as_many in
      omega (arith, low', many)

  -- the table before
  table_before : (worker at : ℕ) (t' : Map) → table_at maps' worker at ≡ Some t' → (t : Map) × (table_at maps worker at ≡ Some t) × (t'.table ≡ t.table)
  table_before worker at t' here = ⊎_elim
      (λ (there : (x : Tables) × (at < length maps') × (slice_get maps' at ≡ Some x) × (get_or maps' at x ≡ x)).
      let m' : Tables = there.0 in
      let was = before at m' there.2 in
      let m : Tables = was.0 in
      let kept : KeepsTables m m' = keep.each at m m' was.1 there.2 in
      let at_place : slice_get m'.tables (place_of m'.shape.scope worker) ≡ Some t' = ap (λ (o : Option Tables). option_and_then (λ (x : Tables). table_of x worker) o) (sym there.2) ∙ here in
      let at_place' : slice_get m'.tables (place_of m.shape.scope worker) ≡ Some t' = subst (λ (s : Shape). slice_get m'.tables (place_of s.scope worker) ≡ Some t') kept.shape at_place in
      let stood = there_too m.tables m'.tables (place_of m.shape.scope worker) t' kept.tables.as_many at_place' in
      (stood.0, ap (λ (o : Option Tables). option_and_then (λ (x : Tables). table_of x worker) o) was.1 ∙ stood.1, (kept.tables.each (place_of m.shape.scope worker) stood.0 t' stood.1 at_place').table))
      (λ (past : (length maps' ≤ at) × (slice_get maps' at ≡ None)).
      let nothing : None ≡ Some t' = ap (λ (o : Option Tables). option_and_then (λ (x : Tables). table_of x worker) o) (sym past.1) ∙ here in cc)
      (slice_get_cases maps' at).1

  pub fitting_kept : (worker : ℕ) (seats : List Place) → IsFitting maps worker seats → IsFitting maps' worker seats
  fitting_kept worker seats fitting = (
    tables_kept worker fitting.0,
    (
      fitting.1.0 ∙ sym keep.as_many,
      λ at t' s here there.
          let was = table_before worker at t' here in
          fitting.1.1 at was.0 s was.1 there ∙ sym was.2,
    ),
  )

-- maps whose shapes agree at each index
same_shapes : (maps maps' : List Tables) → length maps' ≡ length maps → ((at : ℕ) (m m' : Tables) → slice_get maps at ≡ Some m → slice_get maps' at ≡ Some m' → m'.shape ≡ m.shape) → shapes_of maps' ≡ shapes_of maps
same_shapes [] [] many each = refl
same_shapes (m ∷ maps) (m' ∷ maps') many each =
    let rest : shapes_of maps' ≡ shapes_of maps = same_shapes maps maps' (omega arith) (λ at. each (suc at)) in
    let first : m'.shape ≡ m.shape = each 0 m m' refl refl in
    cc
same_shapes [] (m' ∷ maps') many each = absurd (omega arith)
same_shapes (m ∷ maps) [] many each = absurd (omega arith)

pub shapes_kept : (maps maps' : List Tables) → KeepTables maps maps' → shapes_of maps' ≡ shapes_of maps
shapes_kept maps maps' keep = same_shapes maps maps' keep.as_many (λ at m m' here there. (keep.each at m m' here there).shape)

pub same_tables : (tables : List Map) → AreSameTables tables tables
same_tables tables = record {
  as_many = refl;
  each = λ at t t' here there.
      let same : t ≡ t' = same_value (slice_get tables at) t t' here there in
      subst (IsSameTable t) same (record { table = refl; shape = refl });
}

keeps_all : (m : Tables) → KeepsTables m m
keeps_all m = record { shape = refl; tables = same_tables m.tables }

pub keep_all : (maps : List Tables) → KeepTables maps maps
keep_all maps = record {
  as_many = refl;
  each = λ at m m' here there. subst (KeepsTables m) (same_value (slice_get maps at) m m' here there) (keeps_all m);
}

pub same_further : (a b c : List Map) → AreSameTables a b → AreSameTables b c → AreSameTables a c
same_further a b c one other = record {
  as_many = other.as_many ∙ one.as_many;
  each = λ at t t' here there.
      let mid = there_too b c at t' other.as_many there in
      let first : IsSameTable t mid.0 = one.each at t mid.0 here mid.1 in
      let then : IsSameTable mid.0 t' = other.each at mid.0 t' mid.1 there in
      record { table = then.table ∙ first.table; shape = then.shape ∙ first.shape };
}

keeps_further : (m n o : Tables) → KeepsTables m n → KeepsTables n o → KeepsTables m o
keeps_further m n o one other = record { shape = other.shape ∙ one.shape; tables = same_further m.tables n.tables o.tables one.tables other.tables }

pub keep_further : (maps more most : List Tables) → KeepTables maps more → KeepTables more most → KeepTables maps most
keep_further maps more most one other = record {
  as_many = other.as_many ∙ one.as_many;
  each = λ at m m' here there.
      let mid = there_too more most at m' other.as_many there in
      keeps_further m mid.0 m' (one.each at m mid.0 here mid.1) (other.each at mid.0 m' mid.1 there);
}

-- a list of which one element was changed
changed_at : {A : Type 0} (R : A → A → Type 0) (xs : List A) (at : ℕ) (a b : A) → slice_get xs at ≡ Some a → R a b → ((x : A) → R x x)
    → (k : ℕ) (x y : A) → slice_get xs k ≡ Some x → slice_get (slice_set xs at b) k ≡ Some y → R x y
changed_at {A} R xs at a b here changed same k x y stood stands = dite (ℕ_discrete k at)
    (λ e.
    let x_is : a ≡ x = same_value (slice_get xs k) a x (subst (λ (j : ℕ). slice_get xs j ≡ Some a) (sym e) here) stood in
    let y_is : b ≡ y = same_value (slice_get (slice_set xs at b) k) b y (subst (λ (j : ℕ). slice_get (slice_set xs at b) j ≡ Some b) (sym e) (put_here xs at b (slice_get_within xs at a here))) stands in
    subst (λ (z : A). R z y) x_is (subst (λ (z : A). R a z) y_is changed))
    (λ ne. subst (λ (z : A). R x z) (same_value (slice_get xs k) x y stood (untouched xs at k b y ne stands)) (same x))

-- if one table changed into the same one
pub same_but_one : (tables : List Map) (at : ℕ) (t t' : Map) → slice_get tables at ≡ Some t → IsSameTable t t' → AreSameTables tables (slice_set tables at t')
same_but_one tables at t t' here same = record {
  as_many = length-set tables at t';
  each = changed_at IsSameTable tables at t t' here same (λ x. record { table = refl; shape = refl });
}

-- a table that gave a seat is the same one
gave_keeps : (m m' : Tables) (worker : ℕ) (seat : Place) → GaveSeat m worker seat m' → KeepsTables m m'
gave_keeps m m' worker seat gave = record {
  shape = gave.shape;
  tables = subst (AreSameTables m.tables) (sym gave.tables) (same_but_one m.tables (place_of m.shape.scope worker) gave.table (seated gave.table) gave.table_is (record { table = refl; shape = refl }));
}

-- after a map gave a seat of one of its tables
pub gave_keep : (maps : List Tables) (at : ℕ) (m m' : Tables) (worker : ℕ) (seat : Place) → slice_get maps at ≡ Some m → GaveSeat m worker seat m' → KeepTables maps (slice_set maps at m')
gave_keep maps at m m' worker seat here gave = record {
  as_many = length-set maps at m';
  each = changed_at KeepsTables maps at m m' here (gave_keeps m m' worker seat gave) keeps_all;
}

-- the seats so far sit at the tables of the first maps
pub record Seated (maps : List Tables) (worker : ℕ) (seats : List Place) : Type 0 where
  pub own : (at : ℕ) (t : Map) (s : Place) → table_at maps worker at ≡ Some t → slice_get seats at ≡ Some s → s.table ≡ t.table

-- an element of a longer list is the last one, or was there before
pushed : {A P : Type 0} (xs ys : List A) (a : A) (k : ℕ) (y : A) → ys ≡ xs ++ a ∷ [] → slice_get ys k ≡ Some y → (k ≡ length xs → y ≡ a → P) → (slice_get xs k ≡ Some y → P) → P
pushed {A} {P} xs ys a k y are stands last before =
    let stands' : slice_get (xs ++ a ∷ []) k ≡ Some y = subst (λ (zs : List A). slice_get zs k ≡ Some y) are stands in
    let low : k < length (xs ++ a ∷ []) = slice_get_within (xs ++ a ∷ []) k y stands' in
    dite (ℕ_discrete k (length xs))
    (λ e. last e (sym (get_or_from_slice_get (xs ++ a ∷ []) k y a stands') ∙ get_or_push xs a a k (sym e)))
    (λ ne.
    let below : k < length xs = omega (arith, length_push xs a) in
    before (
    slice_get-get_or xs k y below
    ∙ ap (λ (x : A). Some x) (sym (get_or_append_left xs (a ∷ []) y k below) ∙ get_or_from_slice_get (xs ++ a ∷ []) k y y stands')))

-- one seat more
pub seated_more : (maps : List Tables) (at : ℕ) (m m' : Tables) (worker : ℕ) (seat : Place) (seats seats' : List Place) → slice_get maps at ≡ Some m → GaveSeat m worker seat m' → at ≡ length seats
    → seats' ≡ seats ++ seat ∷ [] → Seated maps worker seats → Seated (slice_set maps at m') worker seats'
seated_more maps at m m' worker seat seats seats' here gave last are sat = record {
  own = λ k t s table stands.
      let maps' : List Tables = slice_set maps at m' in
      let was = table_before maps maps' (gave_keep maps at m m' worker seat here gave) worker k t table in
      pushed seats seats' seat k s are stands
      (λ is_last s_is.
      let t_is : was.0 ≡ gave.table = same_value (table_at maps worker k) was.0 gave.table was.1
      (subst (λ (j : ℕ). table_at maps worker j ≡ Some gave.table) (last ∙ sym is_last) (ap (λ (o : Option Tables). option_and_then (λ (x : Tables). table_of x worker) o) here ∙ gave.table_is)) in
      ap (λ (x : Place). x.table) s_is ∙ (gave.own ∙ (ap (λ (x : Map). x.table) (sym t_is) ∙ sym was.2)))
      (λ earlier. sat.own k was.0 s was.1 earlier ∙ sym was.2);
}

-- the seats so far sit at the first tables
pub record SeatedAt (tables : List Map) (seats : List Place) : Type 0 where
  pub own : (at : ℕ) (t : Map) (s : Place) → slice_get tables at ≡ Some t → slice_get seats at ≡ Some s → s.table ≡ t.table

-- seats at tables that stay the same ones
pub seated_kept : (tables tables' : List Map) (seats : List Place) → AreSameTables tables tables' → SeatedAt tables seats → SeatedAt tables' seats
seated_kept tables tables' seats same sat = record {
  own = λ at t' s here there.
      let was = there_too tables tables' at t' same.as_many here in
      sat.own at was.0 s was.1 there ∙ sym (same.each at was.0 t' was.1 here).table;
}

-- one seat more, of the next table
pub seated_at_more : (tables : List Map) (t : Map) (seat : Place) (seats seats' : List Place) → slice_get tables (length seats) ≡ Some t → seat.table ≡ t.table → seats' ≡ seats ++ seat ∷ []
    → SeatedAt tables seats → SeatedAt tables seats'
seated_at_more tables t seat seats seats' here own are sat = record {
  own = λ k x s table stands. pushed seats seats' seat k s are stands
      (λ e s_is.
      let x_is : x ≡ t = same_value (slice_get tables k) x t table (subst (λ (j : ℕ). slice_get tables j ≡ Some t) (sym e) here) in
      ap (λ (y : Place). y.table) s_is ∙ (own ∙ ap (λ (y : Map). y.table) (sym x_is)))
      (λ earlier. sat.own k x s table earlier);
}

-- tables that are the same ones have the same shapes
pub shapes_still : (shape : Shape) (tables tables' : List Map) → AreSameTables tables tables' → All (λ t. t.shape ≡ shape) tables → All (λ t. t.shape ≡ shape) tables'
shapes_still shape tables tables' same each k d low =
    let here : slice_get tables' k ≡ Some (get_or tables' k d) = slice_get-get_or tables' k d low in
    let was = there_too tables tables' k (get_or tables' k d) same.as_many here in
    let stood : get_or tables k d ≡ was.0 = get_or_from_slice_get tables k was.0 d was.1 in
    let many : length tables' ≡ length tables = same.as_many in
    (same.each k was.0 (get_or tables' k d) was.1 here).shape ∙ (ap (λ (t : Map). t.shape) (sym stood) ∙ each k d (omega arith))
