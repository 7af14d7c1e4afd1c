-- The text of a configuration has no fault, and no other configuration has the text.
use Rattle.std.proofs.Common.{◌≡◌, ◌≢◌, ℕ, zero, suc, ◌&&◌, Bool, true, false, true≢false, List, [], ◌∷◌, Option, Some, None, option_and_then, codes, Result, Ok, Err, IfOk, IfErr, MatchResult, refl, sym, ap, ap₂, ◌∙◌, subst, arith}
use Rattle.std.specs.List.{list_all}
use Rattle.std.proofs.lemmas.Bool.{le-leb}
use Rattle.std.proofs.lemmas.List.Folds.{list_all_at}
use Rattle.std.proofs.lemmas.Option.{same_Some}
use Rattle.toml.specs.Data.{Data, string, integer, float, boolean, datetime, array, table, Items, no_items, item, Members, get_member, get_item}
use Rattle.toml.specs.Parse.{parse_document}
use Rattle.bpf_regions.specs.declared.maps.Shape.{Shape}
use Rattle.apd_config.specs.declared.configuration.Configuration.{Configuration}
use Rattle.apd_config.specs.declared.keys.Key.TheVariants as top
use Rattle.apd_config.specs.declared.keys.MapKey.TheVariants as in_map
use Rattle.apd_config.specs.declared.fault.ConfigFault.{ConfigFault}
use Rattle.apd_config.specs.declared.fault.ConfigFault.TheVariants as fault
use Rattle.apd_config.specs.Meaning.{bssid_of, ssid_of, rates_of, draw_of, count_of, width_of, scope_of, scope_or_shared, keys_in, is_key, is_map_key, SaysShape, SaysMap, SaysShapes, SaysMaps}
use Rattle.apd_config.specs.Text.{AreAlike, IsTextOf, Says, HasUnknownKey, TellsOfMap, TellsOfSomeMap, Tells, TellsOfText, is_table, are_tables, are_maps, count_items}
use Rattle.apd_config.proofs.MapLemmas.{length-says}

known_keys : (p : List ℕ → Bool) (t : Members) (text : List ℕ) → list_all p (keys_in t) ≡ true → HasUnknownKey t p text → ⊥
known_keys p t text all h =
    let bad : list_all p (keys_in t) ≡ false = list_all_at p (keys_in t) h.there.0 text h.there.1 (ap p h.there.2 ∙ h.unknown) in
    true≢false (sym all ∙ bad)

-- a value that was read is there, and isn't bad
there_is : {X : Type 0} (read : Data → Option X) (o : Option Data) (x : X) → option_and_then read o ≡ Some x → o ≡ None → ⊥
there_is read o x e none = let bad : None ≡ Some x = sym (ap (option_and_then read) none) ∙ e in cc

is_good : {X : Type 0} (read : Data → Option X) (o : Option Data) (d : Data) (x : X) → option_and_then read o ≡ Some x → o ≡ Some d → read d ≡ None → ⊥
is_good read o d x e some none = let bad : None ≡ Some x = sym none ∙ sym (ap (option_and_then read) some) ∙ e in cc

-- ---- maps

says_table : (d : Data) (s : Shape) → SaysMap d s → is_table d ≡ true
says_table (string text) s h = absurd h
says_table (integer z) s h = absurd h
says_table (float x) s h = absurd h
says_table (boolean b) s h = absurd h
says_table (datetime t) s h = absurd h
says_table (array ds) s h = absurd h
says_table (table m) s h = refl

says_tables : (ds : Items) (ss : List Shape) → SaysShapes ds ss → are_tables ds ≡ true
says_tables no_items ss h = refl
says_tables (item d ds) [] h = absurd h
says_tables (item d ds) (s ∷ ss) h = ap₂ ◌&&◌ (says_table d s h.0) (says_tables ds ss h.1)

says_maps : (d : Data) (ss : List Shape) → SaysMaps (Some d) ss → are_maps d ≡ true
says_maps (string text) ss h = absurd h
says_maps (integer z) ss h = absurd h
says_maps (float x) ss h = absurd h
says_maps (boolean b) ss h = absurd h
says_maps (datetime t) ss h = absurd h
says_maps (array ds) ss h = ap₂ ◌&&◌ (le-leb (count_items ds) 16 (omega (arith, length-says ds ss h.1))) (says_tables ds ss h.1)
says_maps (table m) ss h = absurd h

-- the shape of one of the maps
says_one : (ds : Items) (ss : List Shape) (k : ℕ) (m : Members) → SaysShapes ds ss → get_item k ds ≡ Some (table m) → (s : Shape) × SaysShape m s
says_one no_items ss k m h e = cc
says_one (item d ds) [] k m h e = absurd h
says_one (item d ds) (s ∷ ss) zero m h e =
    let P : Data → Type 0 = λ x. SaysMap x s in
    let same : d ≡ table m = same_Some _ _ e in (s, subst P same h.0)
says_one (item d ds) (s ∷ ss) (suc k) m h e = says_one ds ss k m h.1 e

scope_is_good : (o : Option Data) (d : Data) (s : Shape) → scope_or_shared o ≡ Some s.scope → o ≡ Some d → scope_of d ≡ None → ⊥
scope_is_good o d s e some none = let bad : None ≡ Some s.scope = sym none ∙ sym (ap scope_or_shared some) ∙ e in cc

shape_is_faultless : (m : Members) (s : Shape) (k : ℕ) (f : ConfigFault) → SaysShape m s → TellsOfMap m k f → f ≢ fault.NoMemory → ⊥
shape_is_faultless m s k fault.Encoding says h other = h
shape_is_faultless m s k (fault.Syntax text) says h other = h
shape_is_faultless m s k (fault.UnknownKey key) says h other = h
shape_is_faultless m s k (fault.Missing key) says h other = h
shape_is_faultless m s k (fault.Value key) says h other = h
shape_is_faultless m s k (fault.UnknownMapKey n key) says h other = known_keys is_map_key m _ says.keys h.1
shape_is_faultless m s k (fault.MissingInMap n in_map.Entries) says h other = there_is (count_of 4096) (get_member (codes "entries") m) _ says.entries h.2
shape_is_faultless m s k (fault.MissingInMap n in_map.Words) says h other = there_is (count_of 8) (get_member (codes "words") m) _ says.words h.2
shape_is_faultless m s k (fault.MissingInMap n in_map.Width) says h other = there_is width_of (get_member (codes "width") m) _ says.width h.2
shape_is_faultless m s k (fault.MissingInMap n in_map.Scope) says h other = h.1 refl
shape_is_faultless m s k (fault.ValueInMap n in_map.Entries) says h other = is_good (count_of 4096) (get_member (codes "entries") m) _ _ says.entries h.1.there h.1.bad
shape_is_faultless m s k (fault.ValueInMap n in_map.Words) says h other = is_good (count_of 8) (get_member (codes "words") m) _ _ says.words h.1.there h.1.bad
shape_is_faultless m s k (fault.ValueInMap n in_map.Width) says h other = is_good width_of (get_member (codes "width") m) _ _ says.width h.1.there h.1.bad
shape_is_faultless m s k (fault.ValueInMap n in_map.Scope) says h other = scope_is_good (get_member (codes "scope") m) _ s says.scope h.1.there h.1.bad
shape_is_faultless m s k fault.NoMemory says h other = other refl

maps_are_faultless : (t : Members) (c : Configuration) (f : ConfigFault) → Says t c → TellsOfSomeMap t f → f ≢ fault.NoMemory → ⊥
maps_are_faultless t c f says h other =
    let P : Option Data → Type 0 = λ o. SaysMaps o c.maps in
    let shapes = subst P h.there says.maps in
    let one = says_one h.maps c.maps h.tells.number h.tells.map shapes.1 h.tells.there in
    shape_is_faultless h.tells.map one.0 h.tells.number f one.1 h.tells.tells other

-- ---- the whole

table_is_faultless : (t : Members) (c : Configuration) (f : ConfigFault) → Says t c → Tells t f → f ≢ fault.NoMemory → ⊥
table_is_faultless t c fault.Encoding says h other = h
table_is_faultless t c (fault.Syntax text) says h other = h
table_is_faultless t c (fault.UnknownKey key) says h other = known_keys is_key t _ says.keys h
table_is_faultless t c (fault.Missing top.Bssid) says h other = there_is bssid_of (get_member (codes "bssid") t) _ says.bssid h.1
table_is_faultless t c (fault.Missing top.Ssid) says h other = there_is ssid_of (get_member (codes "ssid") t) _ says.ssid h.1
table_is_faultless t c (fault.Missing top.Rates) says h other = there_is rates_of (get_member (codes "rates") t) _ says.rates h.1
table_is_faultless t c (fault.Missing top.Draw) says h other = there_is draw_of (get_member (codes "draw") t) _ says.draw h.1
table_is_faultless t c (fault.Missing top.Map) says h other = h.0 refl
table_is_faultless t c (fault.Value top.Bssid) says h other = is_good bssid_of (get_member (codes "bssid") t) _ _ says.bssid h.there h.bad
table_is_faultless t c (fault.Value top.Ssid) says h other = is_good ssid_of (get_member (codes "ssid") t) _ _ says.ssid h.there h.bad
table_is_faultless t c (fault.Value top.Rates) says h other = is_good rates_of (get_member (codes "rates") t) _ _ says.rates h.there h.bad
table_is_faultless t c (fault.Value top.Draw) says h other = is_good draw_of (get_member (codes "draw") t) _ _ says.draw h.there h.bad
table_is_faultless t c (fault.Value top.Map) says h other =
    let P : Option Data → Type 0 = λ o. SaysMaps o c.maps in
    true≢false (sym (says_maps h.value c.maps (subst P h.there says.maps)) ∙ h.bad)
table_is_faultless t c (fault.UnknownMapKey k key) says h other = maps_are_faultless t c (fault.UnknownMapKey k key) says h other
table_is_faultless t c (fault.MissingInMap k key) says h other = maps_are_faultless t c (fault.MissingInMap k key) says h other
table_is_faultless t c (fault.ValueInMap k key) says h other = maps_are_faultless t c (fault.ValueInMap k key) says h other
table_is_faultless t c fault.NoMemory says h other = other refl

-- the text of the fault is the text of the configuration
same_tables : (text : List ℕ) (c : Configuration) (f : ConfigFault) (t : Members) → IsTextOf text c → parse_document text ≡ Some t → Tells t f → f ≢ fault.NoMemory → ⊥
same_tables text c f t is parsed h other =
    let same : t ≡ is.tables = same_Some _ _ (sym parsed ∙ is.parsed) in
    let P : Members → Type 0 = λ u. Tells u f in
    table_is_faultless is.tables c f is.says (subst P same h) other

pub is_faultless : (text : List ℕ) (c : Configuration) (f : ConfigFault) → IsTextOf text c → TellsOfText text f → f ≢ fault.NoMemory → ⊥
is_faultless text c fault.Encoding is h other = h is.utf8
is_faultless text c (fault.Syntax message) is h other = let bad : None ≡ Some is.tables = sym h ∙ is.parsed in cc
is_faultless text c fault.NoMemory is h other = other refl
is_faultless text c (fault.UnknownKey key) is h other = same_tables text c (fault.UnknownKey key) h.0 is h.1 h.2 other
is_faultless text c (fault.Missing key) is h other = same_tables text c (fault.Missing key) h.0 is h.1 h.2 other
is_faultless text c (fault.Value key) is h other = same_tables text c (fault.Value key) h.0 is h.1 h.2 other
is_faultless text c (fault.UnknownMapKey k key) is h other = same_tables text c (fault.UnknownMapKey k key) h.0 is h.1 h.2 other
is_faultless text c (fault.MissingInMap k key) is h other = same_tables text c (fault.MissingInMap k key) h.0 is h.1 h.2 other
is_faultless text c (fault.ValueInMap k key) is h other = same_tables text c (fault.ValueInMap k key) h.0 is h.1 h.2 other

-- ---- one configuration

says_one_value : {X : Type 0} (o : Option X) (x y : X) → o ≡ Some x → o ≡ Some y → x ≡ y
says_one_value o x y is other = same_Some _ _ (sym is ∙ other)

says_one_shape : (m : Members) (s u : Shape) → SaysShape m s → SaysShape m u → s ≡ u
says_one_shape m s u is other =
    let entries = says_one_value _ _ _ is.entries other.entries in
    let words = says_one_value _ _ _ is.words other.words in
    let width = says_one_value _ _ _ is.width other.width in
    let scope = says_one_value _ _ _ is.scope other.scope in
    rw (entries, words, width, scope) refl

says_one_map : (d : Data) (s u : Shape) → SaysMap d s → SaysMap d u → s ≡ u
says_one_map (string text) s u is other = absurd is
says_one_map (integer z) s u is other = absurd is
says_one_map (float x) s u is other = absurd is
says_one_map (boolean b) s u is other = absurd is
says_one_map (datetime t) s u is other = absurd is
says_one_map (array ds) s u is other = absurd is
says_one_map (table m) s u is other = says_one_shape m s u is other

says_one_list : (ds : Items) (ss us : List Shape) → SaysShapes ds ss → SaysShapes ds us → ss ≡ us
says_one_list no_items [] [] is other = refl
says_one_list no_items (s ∷ ss) us is other = absurd is
says_one_list no_items [] (u ∷ us) is other = absurd other
says_one_list (item d ds) [] us is other = absurd is
says_one_list (item d ds) (s ∷ ss) [] is other = absurd other
says_one_list (item d ds) (s ∷ ss) (u ∷ us) is other = ap₂ ◌∷◌ (says_one_map d s u is.0 other.0) (says_one_list ds ss us is.1 other.1)

says_same_maps : (o : Option Data) (ss us : List Shape) → SaysMaps o ss → SaysMaps o us → ss ≡ us
says_same_maps None ss us is other = is ∙ sym other
says_same_maps (Some (string text)) ss us is other = absurd is
says_same_maps (Some (integer z)) ss us is other = absurd is
says_same_maps (Some (float x)) ss us is other = absurd is
says_same_maps (Some (boolean b)) ss us is other = absurd is
says_same_maps (Some (datetime t)) ss us is other = absurd is
says_same_maps (Some (array ds)) ss us is other = says_one_list ds ss us is.1 other.1
says_same_maps (Some (table m)) ss us is other = absurd is

says_alike : (t : Members) (c d : Configuration) → Says t c → Says t d → AreAlike c d
says_alike t c d is other = record {
  bssid = says_one_value _ _ _ is.bssid other.bssid;
  ssid = says_one_value _ _ _ is.ssid other.ssid;
  rates = says_one_value _ _ _ is.rates other.rates;
  draw = says_one_value _ _ _ is.draw other.draw;
  maps = says_same_maps _ _ _ is.maps other.maps;
}

texts_alike : (text : List ℕ) (c d : Configuration) → IsTextOf text c → IsTextOf text d → AreAlike c d
texts_alike text c d is other =
    let same : other.tables ≡ is.tables = same_Some _ _ (sym other.parsed ∙ is.parsed) in
    let P : Members → Type 0 = λ t. Says t d in
    says_alike is.tables c d is.says (subst P same other.says)

only_memory : (f : ConfigFault) → (f ≢ fault.NoMemory → ⊥) → f ≡ fault.NoMemory
only_memory fault.Encoding h = absurd (h (λ e. cc))
only_memory (fault.Syntax message) h = absurd (h (λ e. cc))
only_memory (fault.UnknownKey key) h = absurd (h (λ e. cc))
only_memory (fault.Missing key) h = absurd (h (λ e. cc))
only_memory (fault.Value key) h = absurd (h (λ e. cc))
only_memory (fault.UnknownMapKey k key) h = absurd (h (λ e. cc))
only_memory (fault.MissingInMap k key) h = absurd (h (λ e. cc))
only_memory (fault.ValueInMap k key) h = absurd (h (λ e. cc))
only_memory fault.NoMemory h = refl

-- what a text is read as, if it is a configuration's
pub only_this : (r : Result Configuration ConfigFault) (text : List ℕ) → IfOk r (IsTextOf text) → IfErr r (TellsOfText text) → (c : Configuration) → IsTextOf text c → MatchResult r (AreAlike c) (λ f. f ≡ fault.NoMemory)
only_this (Ok d) text read faulty c is = texts_alike text c d is read
only_this (Err f) text read faulty c is = only_memory f (is_faultless text c f is faulty)
