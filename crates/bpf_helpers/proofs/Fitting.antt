-- Seats that fit the tables of maps.
use Rattle.std.proofs.Common.{◌≡◌, ◌≢◌, ◌<◌, ◌≤◌, ◌+◌, ◌⊎◌, ℕ, zero, suc, List, [], ◌∷◌, length, map, set, slice_get, slice_set, get_or, Option, Some, None, option_and_then, option_map, Result, Ok, Err, IfErr, MatchResult, refl, sym, ap, ◌∙◌, subst, ⊎_elim, arith}
use Rattle.std.specs.List.{All}
use Rattle.std.proofs.lemmas.List.{length-set, set-get_or, get_or-set_same, get_or-set_other}
use Rattle.std.proofs.lemmas.List.Elements.{All-head, All-tail}
use Rattle.std.proofs.lemmas.Option.{slice_get_within, slice_get-get_or, get_or_from_slice_get, slice_get-map, slice_get_cases}
use mathlib.Core.Logic.{dite}
use native.Mathlib.Decide.{ℕ_discrete}
use Rattle.bpf_regions.specs.declared.maps.Shape.{Shape}
use Rattle.bpf_regions.specs.declared.maps.MapOp.{MapOp}
use Rattle.bpf_regions.specs.declared.maps.MapOp.TheVariants.{Load, Store, Swap, Add, Or, And, Xor, CompareExchange}
use Rattle.bpf_regions.specs.Maps.{word_count}
use Rattle.bpf_model.specs.Run.{words_in, AccessAnswer}
use Rattle.shared_maps.specs.History.{IsAnswer}
use Rattle.shared_maps.specs.Tables.{Map, Place}
use Rattle.bpf_helpers.specs.Tables.{Tables, table_of}
use Rattle.bpf_helpers.specs.Sums.{AreSeated, HaveWord, Loads}
use Rattle.bpf_helpers.specs.Hooked.{table_at, shapes_of, AreSeats, IsFitting, AccessedBy}
use Rattle.bpf_helpers.proofs.Asked.{same_value, put_here}

-- tables of one shape all have its words
pub have_word : (shape : Shape) (word : ℕ) → word < word_count shape → (tables : List Map) (seats : List Place) → All (λ t. t.shape ≡ shape) tables → AreSeated tables seats → HaveWord word tables seats
have_word shape word low [] [] each seated = tt
have_word shape word low (t ∷ ts) (s ∷ ss) each seated = (
  seated.1 0 t s refl refl,
  subst (λ (x : Shape). word < word_count x) (sym (All-head (λ (t : Map). t.shape ≡ shape) t ts each)) low,
  have_word shape word low ts ss (All-tail (λ (t : Map). t.shape ≡ shape) t ts each) (let many = seated.0 in omega arith, λ at. seated.1 (suc at)),
)
have_word shape word low [] (s ∷ ss) each seated = let many = seated.0 in absurd (omega arith)
have_word shape word low (t ∷ ts) [] each seated = let many = seated.0 in absurd (omega arith)

-- one seat more in front
seated_cons : (t : Map) (s : Place) (ts : List Map) (ss : List Place) → s.table ≡ t.table → AreSeated ts ss → AreSeated (t ∷ ts) (s ∷ ss)
seated_cons t s ts ss own rest = (let many : length ss ≡ length ts = rest.0 in omega arith, sits)
  where
    sits : (at : ℕ) (x : Map) (y : Place) → slice_get (t ∷ ts) at ≡ Some x → slice_get (s ∷ ss) at ≡ Some y → y.table ≡ x.table
    sits zero x y here there = ap (λ (z : Place). z.table) (sym (same_value (Some s) s y refl there)) ∙ (own ∙ ap (λ (z : Map). z.table) (same_value (Some t) t x refl here))
    sits (suc at) x y here there = rest.1 at x y here there

-- after loads the seats still belong to the tables
pub still_seated : (word : ℕ) (tables : List Map) (seats : List Place) (answers : List ℕ) (seats' : List Place) → Loads word tables seats answers seats' → AreSeated tables seats → AreSeated tables seats'
still_seated word [] [] [] [] loads seated = seated
still_seated word (t ∷ ts) (s ∷ ss) (n ∷ ns) (s' ∷ ss') loads seated =
    let many : length (s ∷ ss) ≡ length (t ∷ ts) = seated.0 in
    seated_cons t s' ts ss' (loads.0 ∙ seated.1 0 t s refl refl) (still_seated word ts ss ns ss' loads.2 (omega arith, λ at. seated.1 (suc at)))
still_seated word _ _ _ _ loads seated = absurd loads

-- another index than the one written is unchanged
pub untouched : {A : Type 0} (xs : List A) (at other : ℕ) (a b : A) → other ≢ at → slice_get (slice_set xs at a) other ≡ Some b → slice_get xs other ≡ Some b
untouched xs at other a b apart there =
    slice_get-get_or xs other b (subst (λ (n : ℕ). other < n) (length-set xs at a) (slice_get_within (set xs at a) other b there))
    ∙ ap (λ (x : _). Some x) (sym (get_or-set_other xs at other a b apart) ∙ get_or_from_slice_get (set xs at a) other b b there)

module _ (maps : List Tables) (worker : ℕ) where
  -- a map that has a word exists
  pub map_found : (at word : ℕ) (d : Tables) → word < words_in (slice_get (shapes_of maps) at) → slice_get maps at ≡ Some (get_or maps at d)
  map_found at word d low = ⊎_elim
      (λ (here : (x : Tables) × (at < length maps) × (slice_get maps at ≡ Some x) × (get_or maps at x ≡ x)). slice_get-get_or maps at d here.1)
      (λ (past : (length maps ≤ at) × (slice_get maps at ≡ None)).
      let none : word < words_in None = subst (λ (o : Option Shape). word < words_in o) (slice_get-map (λ (x : Tables). x.shape) maps at ∙ ap (λ (o : Option Tables). option_map (λ (x : Tables). x.shape) o) past.1) low in
      absurd (omega arith))
      (slice_get_cases maps at).1

  -- the table of a map that exists
  pub table_found : (at : ℕ) (m : Tables) (t : Map) → slice_get maps at ≡ Some m → table_of m worker ≡ Some t → table_at maps worker at ≡ Some t
  table_found at m t here is = ap (λ (o : Option Tables). option_and_then (λ (x : Tables). table_of x worker) o) here ∙ is

  -- its words are the map's
  pub words_of_map : (at : ℕ) (m : Tables) → slice_get maps at ≡ Some m → slice_get (shapes_of maps) at ≡ Some m.shape
  words_of_map at m here = slice_get-map (λ (x : Tables). x.shape) maps at ∙ ap (λ (o : Option Tables). option_map (λ (x : Tables). x.shape) o) here

  pub inside : (at word : ℕ) (m : Tables) (shape : Shape) → slice_get maps at ≡ Some m → shape ≡ m.shape → word < words_in (slice_get (shapes_of maps) at) → word < word_count shape
  inside at word m shape here is low = subst (λ (s : Shape). word < word_count s) (sym is) (subst (λ (o : Option Shape). word < words_in o) (words_of_map at m here) low)

  -- an answer is in the range of the map's shape
  answers : (shape : Shape) (operation : MapOp) (answer : ℕ) → IsAnswer shape.width operation answer → AccessAnswer (Some shape) operation answer
  answers shape Load answer is = is
  answers shape (Store x) answer is = is
  answers shape (Swap x) answer is = is
  answers shape (Add x) answer is = is
  answers shape (Or x) answer is = is
  answers shape (And x) answer is = is
  answers shape (Xor x) answer is = is
  answers shape (CompareExchange x y) answer is = is

  pub in_range : (at : ℕ) (m : Tables) (shape : Shape) (operation : MapOp) (answer : ℕ) → slice_get maps at ≡ Some m → shape ≡ m.shape → IsAnswer shape.width operation answer
      → AccessAnswer (slice_get (shapes_of maps) at) operation answer
  in_range at m shape operation answer here same is =
      subst (λ (o : Option Shape). AccessAnswer o operation answer) (sym (words_of_map at m here))
      (answers m.shape operation answer (subst (λ (s : Shape). IsAnswer s.width operation answer) same is))

  -- after an access the seats still fit
  pub fit_still : (seats seats' : List Place) (t : Map) (at word : ℕ) (operation : MapOp) (answer : ℕ) → IsFitting maps worker seats → AccessedBy t seats at word operation answer seats' → IsFitting maps worker seats'
  fit_still seats seats' t at word operation answer fitting by = (
    fitting.0,
    (
      ap length by.seats_are ∙ (length-set seats at by.after ∙ fitting.1.0),
      λ at' t' s' there here'. dite (ℕ_discrete at' at)
          (λ e.
          let put : slice_get seats' at' ≡ Some by.after = subst (λ (k : ℕ). slice_get seats' k ≡ Some by.after) (sym e) (ap (λ (xs : List Place). slice_get xs at) by.seats_are ∙ put_here seats at by.after (slice_get_within seats at by.before by.before_is)) in
          let is : s' ≡ by.after = same_value (slice_get seats' at') s' by.after here' put in
          ap (λ (x : Place). x.table) is ∙ (by.same_table ∙ fitting.1.1 at' t' by.before there (subst (λ (k : ℕ). slice_get seats k ≡ Some by.before) (sym e) by.before_is)))
          (λ ne.
          let there' : slice_get (slice_set seats at by.after) at' ≡ Some s' = subst (λ (xs : List Place). slice_get xs at' ≡ Some s') by.seats_are here' in
          fitting.1.1 at' t' s' there (untouched seats at at' by.after s' ne there')),
    ),
  )

-- tables with the same parts are equal
same_table : (a b : Map) → a.table ≡ b.table → a.shape ≡ b.shape → a.seats ≡ b.seats → a.given ≡ b.given → a ≡ b
same_table a b table shape seats given =
    ap (λ (x : _). record a { table = x }) table
    ∙ (ap (λ (x : Shape). record a { table = b.table; shape = x }) shape
    ∙ (ap (λ (n : ℕ). record a { table = b.table; shape = b.shape; seats = n }) seats
    ∙ ap (λ (n : ℕ). record b { given = n }) given))

-- if no seat was given, the tables are unchanged
pub none_given : {A E : Type 0} (r : Result A E) (tables : List Map) (place : ℕ) (old new : Map) (P : E → Type 0) (m m' : Tables)
    → old ≡ get_or tables place old → (new.table ≡ old.table) × (new.shape ≡ old.shape) × (new.seats ≡ old.seats)
    → MatchResult r (λ _. new.given ≡ old.given + 1) (λ _. new.given ≡ old.given)
    → m' ≡ record { shape = m.shape; tables = set tables place new } → m ≡ record { shape = m.shape; tables = tables }
    → IfErr r P → IfErr r (λ e. P e × (m' ≡ m))
none_given (Ok x) tables place old new P m m' at same given is was h = tt
none_given (Err e) tables place old new P m m' at same given is was h =
    let stays : new ≡ old = same_table new old same.0 same.1 same.2 given in
    (h, is ∙ (ap (λ (ts : List Map). record { shape = m.shape; tables = ts }) (ap (λ (t : Map). set tables place t) (stays ∙ at) ∙ set-get_or tables place old) ∙ sym was))
