-- Runs of eight shards.
use Rattle.std.proofs.Common.{◌≡◌, ◌≢◌, ℕ, ◌<◌, ◌≤◌, zero, suc, Bool, true, false, cond, Option, Some, None, List, [], ◌∷◌, ◌++◌, map, length, slice_index_or, get_or, replicate, refl, sym, ap, subst, ◌∙◌, arith, append_assoc, get_or-set_same, get_or-set_other}
use Rattle.std.proofs.lemmas.List.{append-nil, get_or-map, get_or-replicate, get_or_default, length-map, set-get_or}
use Rattle.std.proofs.Math.ListN.{length-set, get_or-eq_default}
use Rattle.std.proofs.lemmas.Bool.Decides.{nat_tests}
use Rattle.std.specs.Prelude.{slice_set, ◌==◌, nat_lt, MatchOption}
use Rattle.std.specs.Option.{option_map}
use Rattle.std.specs.Global.{Vec}
use Rattle.ap_model.specs.declared.event.Event.{Event}
use Rattle.ap_model.specs.declared.event.Event.TheVariants as event
use Rattle.ap_model.specs.declared.event.Out.{Out}
use Rattle.ap_model.specs.Asks.{Ask, Answered}
use Rattle.ap_model.specs.Readings.{Readings, Rules, Config}
use Rattle.ap_model.specs.Steps.{Ticks}
use Rattle.ap_model.specs.Runs.{Entry, Run, rests, goes_on, opening, History}
use Rattle.ap_model.specs.AccessPoint.{At, Everywhere, AreTurns, no_event, refused, at_its_shard, ticked, EventsLead, shard_of, InPlace}
use Rattle.ap_model.proofs.Appending.{leads_append}
use Rattle.ap_core.specs.declared.shard.Shard.{Shard}
use Rattle.ap_core.specs.Handles.{rules}
use Rattle.ap_core.specs.Shards.{reads, ruled, Handles}
use Rattle.ap_core.specs.Ticking.{TickStep}
use Rattle.ap_core.specs.AccessPoints.{no_rules, rules_of, readings_of, AreFresh, RunsAll, RunsOne, joined, TickedBelow, IsFresh}

-- ---- runs one after another

module _ {S : Type 0} (R : S → Ask → ℕ → S → Type 0) where
  pub no_events : (shards : List Shard) (j : S) → RunsAll R shards [] j [] shards j
  no_events shards j =
      record {
        leads = record { turns = []; are = no_event; run = λ s lt. rests (readings_of shards s); listed = refl };
        rules = λ s. refl;
      }

  pub runs_append : (old mid new : List Shard) (es fs : List Event) (j k l : S) (rs ss : List (Option (List Out))) →
      RunsAll R old es j rs mid k → RunsAll R mid fs k ss new l → RunsAll R old (es ++ fs) j (rs ++ ss) new l
  runs_append old mid new es fs j k l rs ss h g =
      let c : (s : ℕ) → rules_of mid s ≡ rules_of old s = h.rules in
      let went_on = subst (λ (c : ℕ → Rules). EventsLead R c (readings_of mid) fs k ss (readings_of new) l) (λ i s. c s i) g.leads in
      record {
        leads = leads_append R (rules_of old) (readings_of old) (readings_of mid) (readings_of new) es fs j k l rs ss h.leads went_on;
        rules = λ s. g.rules s ∙ h.rules s;
      }

  -- an event that is refused
  pub refused_one : (shards : List Shard) (e : Event) (j : S) → RunsOne R shards e j None shards j
  refused_one shards e j =
      record {
        leads = record { turns = []; are = refused e [] [] [] no_event; run = λ s lt. rests (readings_of shards s); listed = refl };
        rules = λ s. refl;
      }

-- ---- one shard of them

map_set : {X Y : Type 0} (f : X → Y) (xs : List X) (i : ℕ) (y : X) → map f (slice_set xs i y) ≡ slice_set (map f xs) i (f y)
map_set f [] i y = refl
map_set f (x ∷ xs) zero y = refl
map_set f (x ∷ xs) (suc i) y = ap (λ (t : List _). f x ∷ t) (map_set f xs i y)

module _ {Y : Type 0} (f : Shard → Y) (d : Y) (shards : List Shard) (i : ℕ) (y : Shard) where
  image_there : i < length shards → slice_index_or (map f (slice_set shards i y)) i d ≡ f y
  image_there l = get_or-map f (slice_set shards i y) i y d (omega (arith, length-set shards i y)) ∙ ap f (get_or-set_same shards i y y l)

  image_elsewhere : (s : ℕ) → (s ≢ i) → slice_index_or (map f (slice_set shards i y)) s d ≡ slice_index_or (map f shards) s d
  image_elsewhere s ne = ap (λ (t : List Y). slice_index_or t s d) (map_set f shards i y) ∙ get_or-set_other (map f shards) i s (f y) d ne

module _ {S : Type 0} (R : S → Ask → ℕ → S → Type 0) (shards : List Shard) (at : ℕ) (inside : at < length shards) (d y : Shard) (e : Event) (j j2 : S) (outs : List Out) where
  abbrev pub x : Shard
  x = slice_index_or shards at d

  rules_there : rules_of shards at ≡ ruled x
  rules_there = get_or-map ruled shards at d no_rules inside

  readings_there : readings_of shards at ≡ reads x
  readings_there = get_or-map reads shards at d opening inside

  new_rules : ruled y ≡ ruled x → (s : ℕ) (b : Bool) → (s == at) ≡ b → rules_of (slice_set shards at y) s ≡ rules_of shards s
  new_rules same s true t =
      let h : s ≡ at = grind (arith, nat_tests) in
      ap (λ n. rules_of (slice_set shards at y) n) h ∙ image_there ruled no_rules shards at y inside ∙ same ∙ sym rules_there ∙ ap (λ n. rules_of shards n) (sym h)
  new_rules same s false t = let h : s ≢ at = grind (arith, nat_tests) in image_elsewhere ruled no_rules shards at y s h

  run_by : (entry : Entry) → Run (ruled x) (reads x) (entry ∷ []) (reads y) → (s : ℕ) (b : Bool) → (at == s) ≡ b →
      Run (rules_of shards s) (readings_of shards s) (cond b (entry ∷ []) []) (readings_of (slice_set shards at y) s)
  run_by entry h s true t =
      let f : at ≡ s = grind (arith, nat_tests) in
      subst (λ (n : ℕ). Run (rules_of shards n) (readings_of shards n) (entry ∷ []) (readings_of (slice_set shards at y) n)) f
      (subst (λ (r : Readings). Run (rules_of shards at) (readings_of shards at) (entry ∷ []) r) (sym (image_there reads opening shards at y inside))
      (subst (λ (c : Rules). Run c (readings_of shards at) (entry ∷ []) (reads y)) (sym rules_there)
      (subst (λ (r : Readings). Run (ruled x) r (entry ∷ []) (reads y)) (sym readings_there) h)))
  run_by entry h s false t =
      let f : s ≢ at = grind (arith, nat_tests) in
      subst (λ (r : Readings). Run (rules_of shards s) (readings_of shards s) [] r) (sym (image_elsewhere reads opening shards at y s f)) (rests (readings_of shards s))

  -- an event at its shard
  pub handled_one : shard_of e ≡ Some at → Handles R x e j outs y j2 → ruled y ≡ ruled x → RunsOne R shards e j (Some outs) (slice_set shards at y) j2
  handled_one concerns h same =
      let entry : Entry = record { event = e; asked = h.asked; outs = outs } in
      record {
        leads =
            record {
              turns = At at entry ∷ [];
              are = at_its_shard entry at [] [] [] concerns no_event;
              run = λ s lt. run_by entry (goes_on (reads x) (reads y) (reads y) entry [] h.does (rests (reads y))) s (at == s) refl;
              listed = subst (λ (t : List (Ask × ℕ)). Answered R j t j2) (sym (append-nil h.asked)) h.listed;
            };
        rules = λ s. new_rules same s (s == at) refl;
      }

  set_back : y ≡ x → slice_set shards at y ≡ shards
  set_back same = ap (λ (z : Shard). slice_set shards at z) same ∙ set-get_or shards at d

  -- an event that is refused there
  pub refused_there : y ≡ x → j2 ≡ j → RunsOne R shards e j None (slice_set shards at y) j2
  refused_there same stays =
      subst (λ (k : S). RunsOne R shards e j None (slice_set shards at y) k) (sym stays)
      (subst (λ (new : List Shard). RunsOne R shards e j None new j) (sym (set_back same)) (refused_one R shards e j))

-- ---- a tick of them all

joined_same : (n : ℕ) (f g : ℕ → List Out) → ((s : ℕ) → s < n → f s ≡ g s) → joined n f ≡ joined n g
joined_same zero f g h = refl
joined_same (suc n) f g h =
    ap (λ (t : List Out). t ++ f n) (joined_same n f g (λ s l. h s (omega (arith, l)))) ∙ ap (λ (t : List Out). joined n g ++ t) (h n (omega arith))

pub none_ticked : (units : ℕ) (shards : List Shard) (outs : List Out) → outs ≡ [] → TickedBelow 0 units shards shards outs
none_ticked units shards outs e =
    record { many = refl; parts = λ s. []; is = e; steps = λ s d l. absurd (omega (arith, l)); rules = λ s d l. absurd (omega (arith, l)); others = λ s d l. refl }

module _ (units last : ℕ) (old mid : List Shard) (before : List Out) (p : TickedBelow last units old mid before) (inside : last < length mid) (stands y : Shard)
    (outs : List Out) (step : TickStep (ruled (slice_index_or mid last stands)) (reads (slice_index_or mid last stands)) units before outs (reads y))
    (same : ruled y ≡ ruled (slice_index_or mid last stands)) where
  abbrev pub there : Shard
  there = slice_index_or mid last stands

  abbrev pub new : List Shard
  new = slice_set mid last y

  abbrev pub parts : ℕ → List Out
  parts s = cond (s == last) step.more (p.parts s)

  part_at : (b : Bool) → (last == last) ≡ b → cond b step.more (p.parts last) ≡ step.more
  part_at true e = refl
  part_at false e = absurd (let h : last ≢ last = grind (arith, nat_tests) in h refl)

  part_below : (s : ℕ) → s < last → (b : Bool) → (s == last) ≡ b → p.parts s ≡ cond b step.more (p.parts s)
  part_below s l true e = absurd (let h : s ≡ last = grind (arith, nat_tests) in omega arith)
  part_below s l false e = refl

  was : (d : Shard) → slice_index_or old last d ≡ there
  was d = sym (p.others last d (omega arith)) ∙ get_or_default mid last d stands inside

  now : (d : Shard) → slice_index_or new last d ≡ y
  now d = get_or-set_same mid last y d inside

  step_by : (s : ℕ) (d : Shard) → s < suc last → (b : Bool) → (s == last) ≡ b →
      Ticks (ruled (slice_index_or old s d)) (reads (slice_index_or old s d)) units [] (cond b step.more (p.parts s)) (reads (slice_index_or new s d))
  step_by s d l true e =
      let f : s ≡ last = grind (arith, nat_tests) in
      subst (λ (n : ℕ). Ticks (ruled (slice_index_or old n d)) (reads (slice_index_or old n d)) units [] step.more (reads (slice_index_or new n d))) (sym f)
      (subst (λ (z : Shard). Ticks (ruled z) (reads z) units [] step.more (reads (slice_index_or new last d))) (sym (was d))
      (subst (λ (z : Shard). Ticks (ruled there) (reads there) units [] step.more (reads z)) (sym (now d)) step.step))
  step_by s d l false e =
      let f : s ≢ last = grind (arith, nat_tests) in
      subst (λ (z : Shard). Ticks (ruled (slice_index_or old s d)) (reads (slice_index_or old s d)) units [] (p.parts s) (reads z)) (sym (get_or-set_other mid last s y d f))
      (p.steps s d (omega arith))

  rules_by : (s : ℕ) (d : Shard) → s < suc last → (b : Bool) → (s == last) ≡ b → ruled (slice_index_or new s d) ≡ ruled (slice_index_or old s d)
  rules_by s d l true e =
      let f : s ≡ last = grind (arith, nat_tests) in
      subst (λ (n : ℕ). ruled (slice_index_or new n d) ≡ ruled (slice_index_or old n d)) (sym f) (ap ruled (now d) ∙ same ∙ ap ruled (sym (was d)))
  rules_by s d l false e =
      let f : s ≢ last = grind (arith, nat_tests) in
      ap ruled (get_or-set_other mid last s y d f) ∙ p.rules s d (omega arith)

  pub one_ticked : TickedBelow (suc last) units old new outs
  one_ticked =
      record {
        many = length-set mid last y ∙ p.many;
        parts = parts;
        is =
            step.is ∙ ap (λ (t : List Out). t ++ step.more) (p.is ∙ joined_same last p.parts parts (λ s l. part_below s l (s == last) refl))
            ∙ ap (λ (t : List Out). joined last parts ++ t) (sym (part_at (last == last) refl));
        steps = λ s d l. step_by s d l (s == last) refl;
        rules = λ s d l. rules_by s d l (s == last) refl;
        others = λ s d l. get_or-set_other mid last s y d (λ e. absurd (omega (arith, e, l))) ∙ p.others s d (omega (arith, l));
      }

joined_eight : (f : ℕ → List Out) → joined 8 f ≡ f 0 ++ (f 1 ++ (f 2 ++ (f 3 ++ (f 4 ++ (f 5 ++ (f 6 ++ f 7))))))
joined_eight f = simp append_assoc

module _ (units : ℕ) (old new : List Shard) (outs : List Out) (p : TickedBelow 8 units old new outs) (eight : length old ≡ 8) (eight_new : length new ≡ 8) where
  tick_at : (d : Shard) (s : ℕ) → s < 8 → Run (rules_of old s) (readings_of old s) (record { event = event.Tick units; asked = []; outs = p.parts s } ∷ []) (readings_of new s)
  tick_at d s lt =
      let c = get_or-map ruled old s d no_rules (omega arith) in
      let r = get_or-map reads old s d opening (omega arith) in
      let r2 = get_or-map reads new s d opening (omega arith) in
      let entry : Entry = record { event = event.Tick units; asked = []; outs = p.parts s } in
      subst (λ (z : Rules). Run z (readings_of old s) (entry ∷ []) (readings_of new s)) (sym c)
      (subst (λ (z : Readings). Run (ruled (slice_index_or old s d)) z (entry ∷ []) (readings_of new s)) (sym r)
      (subst (λ (z : Readings). Run (ruled (slice_index_or old s d)) (reads (slice_index_or old s d)) (entry ∷ []) z) (sym r2)
      (goes_on _ _ _ entry [] (p.steps s d lt) (rests _))))

  rules_at : (d : Shard) (s : ℕ) (b : Bool) → nat_lt s 8 ≡ b → rules_of new s ≡ rules_of old s
  rules_at d s true e =
      let lt : s < 8 = grind (arith, nat_tests) in
      get_or-map ruled new s d no_rules (omega arith) ∙ p.rules s d lt ∙ sym (get_or-map ruled old s d no_rules (omega arith))
  rules_at d s false e =
      let le : 8 ≤ s = grind (arith, nat_tests) in
      get_or-eq_default (map ruled new) no_rules (omega (arith, length-map new ruled))
      ∙ sym (get_or-eq_default (map ruled old) no_rules (omega (arith, length-map old ruled)))

  pub all_ticked : {S : Type 0} (R : S → Ask → ℕ → S → Type 0) (j : S) → Shard → RunsOne R old (event.Tick units) j (Some outs) new j
  all_ticked R j d =
      record {
        leads =
            record {
              turns = Everywhere units p.parts ∷ [];
              are =
                  subst (λ (t : List Out). AreTurns (event.Tick units ∷ []) (Some t ∷ []) (Everywhere units p.parts ∷ [])) (sym (p.is ∙ joined_eight p.parts))
                  (ticked units p.parts [] [] [] no_event);
              run = λ s lt. tick_at d s lt;
              listed = refl;
            };
        rules = λ s. rules_at d s (nat_lt s 8) refl;
      }

one_of : (shards : List Shard) → length shards ≡ 8 → Shard
one_of [] e = absurd (omega arith)
one_of (x ∷ xs) e = x

-- a tick of all, or of none
pub tick_runs : {S : Type 0} (R : S → Ask → ℕ → S → Type 0) (j : S) (units : ℕ) (old later : List Shard) (o : Option (Vec Out)) →
    MatchOption o (later ≡ old) (λ outs. TickedBelow 8 units old later outs.items) → length old ≡ 8 →
    RunsOne R old (event.Tick units) j (option_map (λ outs. outs.items) o) later j
tick_runs R j units old later None e l = subst (λ (t : List Shard). RunsOne R old (event.Tick units) j None t j) (sym e) (refused_one R old (event.Tick units) j)
tick_runs R j units old later (Some outs) p l = all_ticked units old later outs.items p l (p.many ∙ l) R j (one_of old l)

pub have_histories : (shards : List Shard) → length shards ≡ 8 → (s : ℕ) → s < 8 → ∥ History (rules_of shards s) (readings_of shards s) ∥₁
have_histories shards eight s lt =
    let inside : s < length shards = omega (arith, eight, lt) in
    let x : Shard = slice_index_or shards s (one_of shards eight) in
    subst (λ (c : Rules). ∥ History c (readings_of shards s) ∥₁) (sym (get_or-map ruled shards s (one_of shards eight) no_rules inside))
    (subst (λ (r : Readings). ∥ History (ruled x) r ∥₁) (sym (get_or-map reads shards s (one_of shards eight) opening inside)) x.history)

-- ---- eight new shards

module _ (config : Config) where
  pub eight_fresh : (a b c d e f g h : Shard) → IsFresh config 0 a → IsFresh config 1 b → IsFresh config 2 c → IsFresh config 3 d → IsFresh config 4 e → IsFresh config 5 f → IsFresh config 6 g → IsFresh config 7 h →
      AreFresh config (a ∷ b ∷ c ∷ d ∷ e ∷ f ∷ g ∷ h ∷ [])
  eight_fresh a b c d e f g h p0 p1 p2 p3 p4 p5 p6 p7 =
      record { rules = λ s lt. (at s lt).0; readings = λ s lt. (at s lt).1 }
    where
      at : (s : ℕ) → s < 8 → (rules_of (a ∷ b ∷ c ∷ d ∷ e ∷ f ∷ g ∷ h ∷ []) s ≡ rules s config) × (readings_of (a ∷ b ∷ c ∷ d ∷ e ∷ f ∷ g ∷ h ∷ []) s ≡ opening)
      at zero lt = (p0.rules, p0.readings)
      at (suc zero) lt = (p1.rules, p1.readings)
      at (suc (suc zero)) lt = (p2.rules, p2.readings)
      at (suc (suc (suc zero))) lt = (p3.rules, p3.readings)
      at (suc (suc (suc (suc zero)))) lt = (p4.rules, p4.readings)
      at (suc (suc (suc (suc (suc zero))))) lt = (p5.rules, p5.readings)
      at (suc (suc (suc (suc (suc (suc zero)))))) lt = (p6.rules, p6.readings)
      at (suc (suc (suc (suc (suc (suc (suc zero))))))) lt = (p7.rules, p7.readings)
      at (suc (suc (suc (suc (suc (suc (suc (suc n)))))))) lt = absurd (omega (arith, lt))

-- a shard that is fresh by one of eight copies of a configuration is fresh by that
pub fresh_copy : (config : Config) (configs : List Config) (x : Config) (n : ℕ) (s : Shard) → configs ≡ replicate 8 config → n < 8 → x ≡ get_or configs n x → IsFresh x n s → IsFresh config n s
fresh_copy config configs x n s same lt at fresh =
    subst (λ y. IsFresh y n s) (at ∙ (ap (λ l. get_or l n x) same ∙ get_or-replicate 8 n config x lt)) fresh

pub fresh_in_place : (config : Config) (shards : List Shard) → AreFresh config shards → InPlace (rules_of shards)
fresh_in_place config shards fresh s lt = ap (λ (c : Rules). c.shard) (fresh.rules s lt)
