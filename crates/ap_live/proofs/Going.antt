-- How the list of a worker's reports grows.
use Rattle.std.proofs.Common.{◌≡◌, ◌==◌, ◌<◌, ℕ, Bool, true, false, List, [], ◌∷◌, ◌++◌, refl, sym, ap, subst, ◌∙◌, append_assoc}
use Rattle.std.proofs.lemmas.List.{append-nil}
use Rattle.ap_books.specs.Counts.{Counts, none, plus}
use Rattle.ap_books.specs.Holdings.{Holding, sum_of}
use Rattle.ap_core.specs.Handles.{rules}
use Rattle.ap_locked.specs.Tokens.{Token}
use Rattle.ap_model.specs.Asks.{Ask}
use Rattle.ap_model.specs.Readings.{Config, Readings, Rules}
use Rattle.ap_model.specs.declared.event.Event.{Event}
use Rattle.ap_queues.specs.declared.item.Queued.{Queued}
use Rattle.ap_queues.specs.Passes.{taken_by}
use Rattle.ap_shards.specs.Fates.{ChangesIf, Comes, ComesAt}
use Rattle.ap_shards.specs.Judged.{JudgedBy}
use Rattle.ap_shards.specs.Tokens.{Eight, holding_of}
use Rattle.ap_live.specs.Growth.{grown_at, grown_by}
use Rattle.ap_shards.specs.declared.fate.Fate.{Fate}
use Rattle.ap_shards.specs.declared.fate.Fate.TheVariants.{Decided, Refused, NotHandled}
use Rattle.ap_live.specs.declared.tagged.Tagged.{Tagged}
use Rattle.versions.specs.Lists.{Beginning, Begins}
use Rattle.ap_live.specs.Counting.{KeepParts, counted_by, fate_counts, tally}
use Rattle.ap_live.specs.Lives.{Live}
use Rattle.ap_live.specs.Serving.{Becomes, IsInside, Progress, Served, ServedOne, Serves, ServesAll, progress_of}
use Rattle.ap_live.specs.Tokens.{Worker}
use Rattle.ap_live.proofs.Growing.{counted_at, grown_tokens, keep_parts, still_parts}
use Rattle.ap_live.proofs.Sums.{none_plus, plus_none, plus_three}

grown_one : (h : Holding) (ts : List Tagged) (t : Tagged) → grown_by h (ts ++ t ∷ []) ≡ grown_at (grown_by h ts) t.item.shard t.fate
unfolding grown_by
grown_one h [] t = refl
grown_one h (x ∷ ts) t = grown_one (grown_at h x.item.shard x.fate) ts t

grown_none : (h : Holding) → grown_by h [] ≡ h
unfolding grown_by
grown_none h = refl

tally_one : (ts : List Tagged) (t : Tagged) → tally (ts ++ t ∷ []) ≡ plus (tally ts) (fate_counts t.fate)
unfolding tally
tally_one [] t = plus_none (fate_counts t.fate) ∙ sym (none_plus (fate_counts t.fate))
tally_one (x ∷ ts) t = ap (λ c. plus (fate_counts x.fate) c) (tally_one ts t) ∙ sym (plus_three (fate_counts x.fate) (tally ts) (fate_counts t.fate))

tally_none : tally [] ≡ none
unfolding tally
tally_none = refl

serves_one : (config : Config) (a : Live) (n : ℕ) (p m q : Progress) (xs : List Queued) (ts : List Tagged) (x : Queued) (t : Tagged) → ServesAll config a n p xs ts m → Serves config a n m x t q → ServesAll config a n p (xs ++ x ∷ []) (ts ++ t ∷ []) q
serves_one config a n p m q [] [] x t is s = (q, subst (λ (z : Progress). Serves config a n z x t q) is s, refl)
serves_one config a n p m q (y ∷ xs) (u ∷ ts) x t r s = (r.0, r.1, serves_one config a n r.0 m q xs ts x t r.2 s)
serves_one config a n p m q [] (u ∷ ts) x t r s = absurd r
serves_one config a n p m q (y ∷ xs) [] x t r s = absurd r

pub begins_same : (b : Beginning) → Begins b b
begins_same b = record { same_list = refl; same_shapes = refl; has_all = ([], append-nil b.loads) }

-- an event that was not decided changes no token
stays_if : (V : Readings → List (Ask × ℕ) → Type 0) (c : Rules) (e : Event) (here : Bool) (t : Token) → ChangesIf here (λ t u. Comes V c t e NotHandled u) t t
stays_if V c e true t = refl
stays_if V c e false t = refl

pub not_handled_stays : (V : Readings → List (Ask × ℕ) → Type 0) (config : Config) (s : ℕ) (e : Event) (a : Eight) → ComesAt V config s a e NotHandled a
not_handled_stays V config s e a =
    record {
      of0 = stays_if V (rules s config) e (s == 0) a.of0;
      of1 = stays_if V (rules s config) e (s == 1) a.of1;
      of2 = stays_if V (rules s config) e (s == 2) a.of2;
      of3 = stays_if V (rules s config) e (s == 3) a.of3;
      of4 = stays_if V (rules s config) e (s == 4) a.of4;
      of5 = stays_if V (rules s config) e (s == 5) a.of5;
      of6 = stays_if V (rules s config) e (s == 6) a.of6;
      of7 = stays_if V (rules s config) e (s == 7) a.of7;
    }

-- at a shard from 0 to 7
pub is_inside : (f : Fate) (s : ℕ) → s < 8 → IsInside f s
is_inside (Decided outs dropped) s low = low
is_inside Refused s low = tt
is_inside NotHandled s low = tt

-- an event that isn't handled changes nothing
pub left_alone : (config : Config) (a : Live) (n : ℕ) (p : Progress) (e : Event) (s : ℕ) → Becomes config a n p e s NotHandled p
left_alone config a n p e s =
    record {
      begins = begins_same p.seen;
      came = not_handled_stays (JudgedBy a.stock.maps n p.seen.loads p.held p.held) config s e p.shards;
      held = refl;
      inside = tt;
    }

pub served_item : (config : Config) (a : Live) (w w2 : Worker) (x : Queued) (t : Tagged) → Serves config a w.number (progress_of w) x t (progress_of w2) → ServedOne config a w t w2
served_item config a w w2 x t s =
    let b = s.became in
    let grown = grown_tokens (JudgedBy a.stock.maps w.number w2.seen.loads w.held w2.held) config t.item.shard t.item.event t.fate w.shards w2.shards b.came in
    record {
      item = x;
      served = s;
      grown = grown;
      counted = ap sum_of grown ∙ counted_at (holding_of w.shards) t.item.shard t.fate b.inside;
      parts = keep_parts t.item.shard t.fate w.shards w2.shards grown;
    }

same_eight : (a : Eight) → KeepParts a a
same_eight a = (refl, refl, refl, refl, refl, refl, refl, refl)

pub served_none : (config : Config) (a : Live) (w w2 : Worker) (list list2 : List Tagged) → progress_of w2 ≡ progress_of w → list2 ≡ list → Served config a w w2 list list2
served_none config a w w2 list list2 is listed =
    let same : w2.shards ≡ w.shards = ap (λ (p : Progress). p.shards) is in
    record {
      items = [];
      tags = [];
      took = ap (λ (p : Progress). p.taken) is ∙ sym (append-nil (taken_by w.pass));
      listed = listed ∙ sym (append-nil list);
      served = is;
      grown = ap holding_of same ∙ sym (grown_none (holding_of w.shards));
      counted = ap counted_by same ∙ (sym (plus_none (counted_by w.shards)) ∙ ap (λ c. plus (counted_by w.shards) c) (sym tally_none));
      parts = subst (λ (e : Eight). KeepParts w.shards e) (sym same) (same_eight w.shards);
    }

pub served_still : (config : Config) (a : Live) (w w1 w2 : Worker) (list list1 list2 : List Tagged) → Served config a w w1 list list1 → progress_of w2 ≡ progress_of w1 → list2 ≡ list1 → Served config a w w2 list list2
served_still config a w w1 w2 list list1 list2 s is listed =
    let same : w2.shards ≡ w1.shards = ap (λ (p : Progress). p.shards) is in
    record {
      items = s.items;
      tags = s.tags;
      took = ap (λ (p : Progress). p.taken) is ∙ s.took;
      listed = listed ∙ s.listed;
      served = subst (λ (q : Progress). ServesAll config a w.number (progress_of w) s.items s.tags q) (sym is) s.served;
      grown = ap holding_of same ∙ s.grown;
      counted = ap counted_by same ∙ s.counted;
      parts = subst (λ (e : Eight). KeepParts w.shards e) (sym same) s.parts;
    }

pub served_more : (config : Config) (a : Live) (w w1 w2 : Worker) (list list1 list2 : List Tagged) (t : Tagged) → Served config a w w1 list list1 → w1.number ≡ w.number → ServedOne config a w1 t w2
    → list2 ≡ list1 ++ t ∷ [] → Served config a w w2 list list2
served_more config a w w1 w2 list list1 list2 t s number one listed =
    let x : Queued = one.item in
    let serves : Serves config a w.number (progress_of w1) x t (progress_of w2) = subst (λ (n : ℕ). Serves config a n (progress_of w1) x t (progress_of w2)) number one.served in
    record {
      items = s.items ++ x ∷ [];
      tags = s.tags ++ t ∷ [];
      took = one.served.took ∙ (ap (λ (l : List Queued). l ++ x ∷ []) s.took ∙ append_assoc (taken_by w.pass) s.items (x ∷ []));
      listed = listed ∙ (ap (λ (l : List Tagged). l ++ t ∷ []) s.listed ∙ append_assoc list s.tags (t ∷ []));
      served = serves_one config a w.number (progress_of w) (progress_of w1) (progress_of w2) s.items s.tags x t s.served serves;
      grown = one.grown ∙ (ap (λ (h : Holding). grown_at h t.item.shard t.fate) s.grown ∙ sym (grown_one (holding_of w.shards) s.tags t));
      counted = one.counted ∙ (ap (λ (c : Counts). plus c (fate_counts t.fate)) s.counted
          ∙ (plus_three (counted_by w.shards) (tally s.tags) (fate_counts t.fate) ∙ ap (λ (c : Counts). plus (counted_by w.shards) c) (sym (tally_one s.tags t))));
      parts = still_parts w.shards w1.shards w2.shards s.parts one.parts;
    }
