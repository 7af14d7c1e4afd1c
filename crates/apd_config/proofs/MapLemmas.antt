-- The shapes that the maps' tables spell, and what a fault in one of them says of the whole.
use Rattle.std.proofs.Common.{◌≡◌, ℕ, zero, suc, pos, negsuc, ◌+◌, ◌≤◌, ◌<◌, nat_le, false, List, [], ◌∷◌, ◌++◌, length, take, get_or, codes, Option, Some, None, option_and_then, refl, ap, sym, ◌∙◌, arith}
use Rattle.std.specs.List.{All}
use Rattle.std.proofs.lemmas.Bool.{and_parts, leb-true, lt-leb}
use Rattle.std.proofs.Math.Bool.{and-false}
use Rattle.std.proofs.lemmas.List.{take_more}
use Rattle.std.proofs.lemmas.List.Elements.{All-nil, All-cons}
use Rattle.std.proofs.lemmas.Option.{cond_some, same_Some}
use Rattle.toml.specs.Data.{Data, string, integer, float, boolean, datetime, array, table, Items, no_items, item, Members, get_member, get_item, push_item, as_table, as_array}
use Rattle.toml.specs.View.{view, items_view}
use Rattle.toml.proofs.Views.{items_view-push, get_item_within}
use Rattle.toml.specs.declared.value.Value.{Value}
use Rattle.bpf_regions.specs.declared.maps.Shape.{Shape}
use Rattle.bpf_regions.specs.Maps.{IsShape, AreShapes}
use Rattle.apd_config.specs.declared.keys.Key.TheVariants as top
use Rattle.apd_config.specs.declared.fault.ConfigFault.{ConfigFault}
use Rattle.apd_config.specs.declared.fault.ConfigFault.TheVariants as fault
use Rattle.apd_config.specs.Meaning.{count_of, SaysShape, SaysMap, SaysShapes}
use Rattle.apd_config.specs.Text.{is_table, are_tables, count_items, are_maps, Tells, TellsOfMap, TellsOfItem, TellsOfItems}

-- ---- limits

count_within : (limit n : ℕ) (d : Data) → count_of limit d ≡ Some n → (1 ≤ n) × (n ≤ limit)
count_within limit n (string text) e = cc
count_within limit n (integer (negsuc k)) e = cc
count_within limit n (integer (pos k)) e =
    let (test, same) = cond_some _ _ _ e in
    let (low, high) = and_parts _ _ test in
    let least : 1 ≤ k = leb-true 1 k low in
    let most : k ≤ limit = leb-true k limit high in (omega (arith, same), omega (arith, same))
count_within limit n (float x) e = cc
count_within limit n (boolean b) e = cc
count_within limit n (datetime t) e = cc
count_within limit n (array ds) e = cc
count_within limit n (table ms) e = cc

found_within : (limit n : ℕ) (o : Option Data) → option_and_then (count_of limit) o ≡ Some n → (1 ≤ n) × (n ≤ limit)
found_within limit n None e = cc
found_within limit n (Some d) e = count_within limit n d e

IsShape-says : (m : Members) (s : Shape) → SaysShape m s → IsShape s
IsShape-says m s h =
    let entries = found_within 4096 s.entries (get_member (codes "entries") m) h.entries in
    let words = found_within 8 s.words (get_member (codes "words") m) h.words in
    record { some_entries = entries.0; few_entries = entries.1; some_words = words.0; few_words = words.1 }

shape_of_map : (d : Data) (s : Shape) → SaysMap d s → IsShape s
shape_of_map (string text) s h = absurd h
shape_of_map (integer z) s h = absurd h
shape_of_map (float x) s h = absurd h
shape_of_map (boolean b) s h = absurd h
shape_of_map (datetime t) s h = absurd h
shape_of_map (array ds) s h = absurd h
shape_of_map (table m) s h = IsShape-says m s h

all_shapes : (ds : Items) (ss : List Shape) → SaysShapes ds ss → All IsShape ss
all_shapes no_items [] h = All-nil IsShape
all_shapes no_items (s ∷ ss) h = absurd h
all_shapes (item d ds) [] h = absurd h
all_shapes (item d ds) (s ∷ ss) h = All-cons IsShape s ss (shape_of_map d s h.0) (all_shapes ds ss h.1)

-- ---- counts

pub length-says : (ds : Items) (ss : List Shape) → SaysShapes ds ss → length ss ≡ count_items ds
length-says no_items [] h = refl
length-says no_items (s ∷ ss) h = absurd h
length-says (item d ds) [] h = absurd h
length-says (item d ds) (s ∷ ss) h = ap suc (length-says ds ss h.1)

pub count_items-view : (vs : List Value) → count_items (items_view vs) ≡ length vs
count_items-view [] = refl
count_items-view (v ∷ vs) = ap suc (count_items-view vs)

pub AreShapes-says : (vs : List Value) (ss : List Shape) → SaysShapes (items_view vs) ss → length vs ≤ 16 → AreShapes ss
AreShapes-says vs ss h few = record { few = omega (arith, length-says _ _ h, count_items-view vs); each = all_shapes _ ss h }

-- ---- one more map

pub SaysShapes-push : (ds : Items) (ss : List Shape) (d : Data) (s : Shape) → SaysShapes ds ss → SaysMap d s → SaysShapes (push_item ds d) (ss ++ s ∷ [])
SaysShapes-push no_items [] d s h here = (here, tt)
SaysShapes-push no_items (r ∷ ss) d s h here = absurd h
SaysShapes-push (item e ds) [] d s h here = absurd h
SaysShapes-push (item e ds) (r ∷ ss) d s h here = (h.0, SaysShapes-push ds ss d s h.1 here)

-- ---- tables

pub is_the_table : (d : Data) (m : Members) → as_table d ≡ Some m → d ≡ table m
is_the_table (string text) m e = cc
is_the_table (integer z) m e = cc
is_the_table (float x) m e = cc
is_the_table (boolean b) m e = cc
is_the_table (datetime t) m e = cc
is_the_table (array ds) m e = cc
is_the_table (table n) m e = ap table (same_Some _ _ e)

pub is_no_table : (d : Data) → as_table d ≡ None → is_table d ≡ false
is_no_table (string text) e = refl
is_no_table (integer z) e = refl
is_no_table (float x) e = refl
is_no_table (boolean b) e = refl
is_no_table (datetime t) e = refl
is_no_table (array ds) e = refl
is_no_table (table n) e = cc

pub not_tables : (ds : Items) (k : ℕ) (d : Data) → get_item k ds ≡ Some d → is_table d ≡ false → are_tables ds ≡ false
not_tables no_items k d e no_table = cc
not_tables (item x ds) zero d e no_table =
    let same : x ≡ d = same_Some _ _ e in
    rw (same, no_table) refl
not_tables (item x ds) (suc k) d e no_table = rw (not_tables ds k d e no_table) (and-false (is_table x))

-- ---- the item at an index of the array

pub item_at : (vs ws : List Value) (i : ℕ) (v : Value) → ws ≡ vs → i < length ws → v ≡ get_or ws i v → get_item i (items_view vs) ≡ Some (view v)
item_at vs ws i v same within is = rw (← same) (sym (get_item_within ws i v within) ∙ ap (λ x. Some (view x)) (sym is))

pub items_more : (vs ws : List Value) (i : ℕ) (v : Value) → ws ≡ vs → i < length ws → v ≡ get_or ws i v → items_view (take (i + 1) vs) ≡ push_item (items_view (take i vs)) (view v)
items_more vs ws i v same within is =
    rw (← same) (ap items_view (take_more ws i v within) ∙ items_view-push (take i ws) (get_or ws i v) ∙ ap (λ x. push_item (items_view (take i ws)) (view x)) (sym is))

-- ---- faults

pub TellsOfItem-table : (d : Data) (m : Members) (n : ℕ) (f : ConfigFault) → d ≡ table m → TellsOfMap m n f → TellsOfItem d n f
TellsOfItem-table d m n fault.Encoding is h = absurd h
TellsOfItem-table d m n (fault.Syntax text) is h = absurd h
TellsOfItem-table d m n (fault.UnknownKey key) is h = absurd h
TellsOfItem-table d m n (fault.Missing key) is h = absurd h
TellsOfItem-table d m n (fault.Value key) is h = absurd h
TellsOfItem-table d m n (fault.UnknownMapKey k key) is h = (m, is, h)
TellsOfItem-table d m n (fault.MissingInMap k key) is h = (m, is, h)
TellsOfItem-table d m n (fault.ValueInMap k key) is h = (m, is, h)
TellsOfItem-table d m n fault.NoMemory is h = tt

pub TellsOfItems-item : (maps : Items) (d : Data) (n : ℕ) (f : ConfigFault) → get_item n maps ≡ Some d → TellsOfItem d n f → TellsOfItems maps f
TellsOfItems-item maps d n fault.Encoding there h = absurd h.2
TellsOfItems-item maps d n (fault.Syntax text) there h = absurd h.2
TellsOfItems-item maps d n (fault.UnknownKey key) there h = absurd h.2
TellsOfItems-item maps d n (fault.Missing key) there h = absurd h.2
TellsOfItems-item maps d n (fault.Value key) there h = (h.0, not_tables maps n d there h.1)
TellsOfItems-item maps d n (fault.UnknownMapKey k key) there h = record { number = n; map = h.0; there = there ∙ ap Some h.1; tells = h.2 }
TellsOfItems-item maps d n (fault.MissingInMap k key) there h = record { number = n; map = h.0; there = there ∙ ap Some h.1; tells = h.2 }
TellsOfItems-item maps d n (fault.ValueInMap k key) there h = record { number = n; map = h.0; there = there ∙ ap Some h.1; tells = h.2 }
TellsOfItems-item maps d n fault.NoMemory there h = tt

many_items : (ds : Items) → 16 < count_items ds → are_maps (array ds) ≡ false
many_items ds many = rw (lt-leb (count_items ds) 16 many) refl

-- an array of more than 16 items
pub are_maps-many : (d : Data) (ds : Items) → as_array d ≡ Some ds → 16 < count_items ds → are_maps d ≡ false
are_maps-many (string text) ds e many = refl
are_maps-many (integer z) ds e many = refl
are_maps-many (float x) ds e many = refl
are_maps-many (boolean b) ds e many = refl
are_maps-many (datetime t) ds e many = refl
are_maps-many (array es) ds e many = let same : es ≡ ds = same_Some _ _ e in rw same (many_items ds many)
are_maps-many (table ms) ds e many = refl

pub are_maps-none : (d : Data) → as_array d ≡ None → are_maps d ≡ false
are_maps-none (string text) e = refl
are_maps-none (integer z) e = refl
are_maps-none (float x) e = refl
are_maps-none (boolean b) e = refl
are_maps-none (datetime t) e = refl
are_maps-none (array ds) e = cc
are_maps-none (table ms) e = refl

pub Tells-items : (t : Members) (maps : Items) (f : ConfigFault) → get_member (codes "map") t ≡ Some (array maps) → TellsOfItems maps f → Tells t f
Tells-items t maps fault.Encoding there h = absurd h.tells
Tells-items t maps (fault.Syntax text) there h = absurd h.tells
Tells-items t maps (fault.UnknownKey key) there h = absurd h.tells
Tells-items t maps (fault.Missing key) there h = absurd h.tells
Tells-items t maps (fault.Value top.Bssid) there h = let other : top.Bssid ≡ top.Map = h.0 in cc
Tells-items t maps (fault.Value top.Ssid) there h = let other : top.Ssid ≡ top.Map = h.0 in cc
Tells-items t maps (fault.Value top.Rates) there h = let other : top.Rates ≡ top.Map = h.0 in cc
Tells-items t maps (fault.Value top.Draw) there h = let other : top.Draw ≡ top.Map = h.0 in cc
Tells-items t maps (fault.Value top.Map) there h = record { value = array maps; there = there; bad = rw h.1 (and-false (nat_le (count_items maps) 16)) }
Tells-items t maps (fault.UnknownMapKey k key) there h = record { maps = maps; there = there; tells = h }
Tells-items t maps (fault.MissingInMap k key) there h = record { maps = maps; there = there; tells = h }
Tells-items t maps (fault.ValueInMap k key) there h = record { maps = maps; there = there; tells = h }
Tells-items t maps fault.NoMemory there h = tt
