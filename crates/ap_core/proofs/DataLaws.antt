-- Data, by its agreement and its verdict.
use Rattle.std.proofs.Common.{◌≡◌, ℕ, Bool, true, false, Option, Some, None, List, [], ◌∷◌, refl, sym, ap, subst, ◌∙◌}
use Rattle.std.specs.Prelude.{IsSomeAnd, is_some, not}
use Rattle.bpf_regions.specs.declared.hooks.Hook.TheVariants as hook
use Rattle.mac_frame.specs.Spelling.{spelling}
use Rattle.assoc.specs.Standings.{Standings}
use Rattle.blockack.specs.Passed.{frame_of}
use Rattle.blockack.specs.Reading.{IsWanted, IsAlone}
use Rattle.hooks.specs.Contexts as contexts
use Rattle.hooks.specs.declared.verdicts.DataVerdict.{DataVerdict}
use Rattle.hooks.specs.declared.verdicts.DataVerdict.TheVariants.{Pass, Discard}
use Rattle.hooks.specs.Verdicts.{data_verdict}
use Rattle.ap_model.specs.declared.event.Out.{Out}
use Rattle.ap_model.specs.Asks.{Ask}
use Rattle.ap_model.specs.Drops.{discards, drops_by}
use Rattle.ap_model.specs.Readings.{Readings, Using, Held}
use Rattle.ap_model.specs.Changes.{Agrees}
use Rattle.ap_model.specs.Agreements.{Packet, agreement_for, data_ask, let_through, item, ups, DataComes, up, plain, taken, left}
use Rattle.ap_agreements.specs.Uses.{DataUse}
use Rattle.ap_agreements.specs.Tables.{Kept, agreement_in, Sets, UsesData, UsesAlone}
use Rattle.ap_core.specs.Handles.{held_item}
use Rattle.ap_core.specs.declared.packets.DataFrame.{DataFrame}
use Rattle.ap_core.specs.DataFrames.{IsJudged, IsRead}
use Rattle.ap_core.proofs.Handling.{using_is, unchanged}

pub some_and : {P : Using → Type 0} (o : Option Using) → IsSomeAnd o P → (u : Using) × (o ≡ Some u) × P u
some_and None h = absurd h
some_and (Some u) h = (u, refl, h)

abbrev pub start_of : Option Using → Option ℕ
start_of None = None
start_of (Some u) = Some u.window.start

pub asked_with : (r : Readings) (a : List ℕ) (p : Packet) (o : Option Using) (bytes context : List ℕ) → agreement_for r a p.tid ≡ o → bytes ≡ spelling p.frame →
    context ≡ contexts.data_context a (r.standing a) p.tid p.number (start_of o) →
    (let ask : Ask = record { hook = hook.Data; frame = bytes; context = context } in ask) ≡ data_ask r a p
asked_with r a p None bytes context e1 e2 e3 = rw (e1, e2, e3) refl
asked_with r a p (Some u) bytes context e1 e2 e3 = rw (e1, e2, e3) refl

-- the hook's context for it
pub told : (d : DataFrame) (start : Option ℕ) (st : Standings) → IsRead st d →
    contexts.data_context d.frame.sender d.standing d.tid d.number start ≡ contexts.data_context d.frame.sender (st d.frame.sender) d.tid d.number start
told d start st read = ap (λ s. contexts.data_context d.frame.sender s d.tid d.number start) read.standing

-- data with this verdict
pub judged : (st : Standings) (p : Packet) (start : Option ℕ) (bytes context : List ℕ) (verdict : ℕ) (outs : List Out) → bytes ≡ spelling p.frame →
    context ≡ contexts.data_context p.frame.sender (st p.frame.sender) p.tid p.number start → outs ≡ let_through p.frame.sender p (data_verdict verdict) →
    IsJudged st p start ((record { hook = hook.Data; frame = bytes; context = context }, verdict) ∷ []) outs
judged st p start bytes context verdict outs e1 e2 e3 = record { verdict = verdict; asks = rw (e1, e2) refl; is = e3 }

-- an empty item means that the frame is dropped
pub held_nothing : (destination body : List ℕ) (verdict : ℕ) (o : Option Held) (dropped : Bool) →
    o ≡ held_item destination body (data_verdict verdict) → is_some o ≡ not dropped → dropped ≡ drops_by hook.Data verdict
held_nothing destination body verdict o dropped e none = by_verdict (data_verdict verdict) dropped (sym (ap is_some e) ∙ none)
  where
    by_verdict : (v : DataVerdict) (b : Bool) → is_some (held_item destination body v) ≡ not b → b ≡ discards v
    by_verdict (Pass mark) false e = refl
    by_verdict (Pass mark) true e = absurd cc
    by_verdict Discard false e = absurd cc
    by_verdict Discard true e = refl

-- data without an agreement, by its verdict
pub delivered : (r : Readings) (p : Packet) (asked : List (Ask × ℕ)) (outs : List Out) → agreement_for r p.frame.sender p.tid ≡ None →
    IsJudged r.standing p None asked outs → DataComes r p.frame.sender p asked outs r
delivered r p asked outs none j =
    plain (record {
      plain = none;
      verdict = j.verdict;
      asks = j.asks ∙ ap (λ q. (q, j.verdict) ∷ []) (asked_with r p.frame.sender p None _ _ none refl refl);
      is = j.is;
      stays = unchanged _;
    })

-- passing a frame up at once is what a window does that releases this frame alone
pub alone_ups : (p : Packet) (tid : ℕ) (v : DataVerdict) → p.tid ≡ Some tid →
    let_through p.frame.sender p v ≡ ups p.frame.sender tid (frame_of p.number (Some (item p v)))
alone_ups p tid (Pass mark) is_tid = ap (λ t. up p.frame.sender p.destination t p.number mark p.frame.tail ∷ []) is_tid
alone_ups p tid Discard is_tid = refl

-- what the window takes for it
pub item_is : (p : Packet) (v : DataVerdict) → held_item p.destination p.frame.tail v ≡ item p v
item_is p (Pass mark) = refl
item_is p Discard = refl

module _ (r r2 : Readings) (p : Packet) (tid : ℕ) (u v : Using) (is_tid : p.tid ≡ Some tid) (agreed : r.agreement p.frame.sender tid ≡ Some u) where
  agreed_for : agreement_for r p.frame.sender p.tid ≡ Some u
  agreed_for = subst (λ (t : Option ℕ). agreement_for r p.frame.sender t ≡ Some u) (sym is_tid) agreed

  -- data that the window takes
  pub taken_so : (bytes context : List ℕ) (verdict : ℕ) (outs : List Out) (passed : List (ℕ × Held)) → IsWanted u.window p.number →
      bytes ≡ spelling p.frame → context ≡ contexts.data_context p.frame.sender (r.standing p.frame.sender) p.tid p.number (Some u.window.start) →
      DataUse true p.number (item p (data_verdict verdict)) r.clock u v passed → outs ≡ ups p.frame.sender tid passed →
      Agrees r p.frame.sender tid (Some v) r2 →
      DataComes r p.frame.sender p ((record { hook = hook.Data; frame = bytes; context = context }, verdict) ∷ []) outs r2
  taken_so bytes context verdict outs passed wanted e1 e2 uses e3 agrees =
      taken tid u is_tid agreed (record {
        wanted = wanted;
        verdict = verdict;
        asks = ap (λ q. (q, verdict) ∷ []) (asked_with r p.frame.sender p (Some u) bytes context agreed_for e1 e2);
        window = v.window;
        size = uses.size;
        passed = passed;
        moves = uses.moves;
        marks = uses.marks;
        is = e3;
        agrees = subst (λ (w : Using). Agrees r p.frame.sender tid (Some w) r2) (using_is v u.timeout r.clock uses.timeout uses.last_use) agrees;
      })

  -- data that the window doesn't take
  pub left_so : (outs : List Out) → (IsWanted u.window p.number → ⊥) → DataUse false p.number None r.clock u v [] → outs ≡ [] →
      Agrees r p.frame.sender tid (Some v) r2 → DataComes r p.frame.sender p [] outs r2
  left_so outs unwanted uses e agrees =
      left tid u is_tid agreed (record {
        unwanted = unwanted;
        settles = record { silent = refl; is = e };
        window = v.window;
        size = uses.size;
        moves = uses.moves;
        marks = uses.marks;
        agrees = subst (λ (w : Using). Agrees r p.frame.sender tid (Some w) r2) (using_is v u.timeout r.clock uses.timeout uses.last_use) agrees;
      })

-- ---- over a table of agreements

module _ (st : Standings) (ks ks2 : List Kept) (clock : ℕ) (p : Packet) (s : List ℕ) (se : s ≡ p.frame.sender) (tid : ℕ) (is_tid : p.tid ≡ Some tid) where
  abbrev pub before : Readings
  before = record { standing = st; agreement = agreement_in ks; clock = clock }

  abbrev pub after : Readings
  after = record { standing = st; agreement = agreement_in ks2; clock = clock }

  set_agrees : (v : Using) → Sets ks s tid (Some v) ks2 → Agrees before p.frame.sender tid (Some v) after
  set_agrees v sets =
      record { standing = λ q. refl; agreement = subst (λ (a : List ℕ). Sets ks a tid (Some v) ks2) se sets; clock = refl }

  pub taken_from : (start : ℕ) → IsSomeAnd (agreement_in ks p.frame.sender tid) (λ u. IsWanted u.window p.number × (start ≡ u.window.start)) →
      (bytes context : List ℕ) (verdict : ℕ) (it : Option Held) (body : List ℕ) (outs : List Out) (passed : List (ℕ × Held)) → bytes ≡ spelling p.frame →
      context ≡ contexts.data_context p.frame.sender (st p.frame.sender) p.tid p.number (Some start) →
      it ≡ held_item p.destination body (data_verdict verdict) → body ≡ p.frame.tail →
      UsesData true ks s tid p.number it clock ks2 passed → outs ≡ ups s tid passed →
      DataComes before p.frame.sender p ((record { hook = hook.Data; frame = bytes; context = context }, verdict) ∷ []) outs after
  taken_from start there bytes context verdict it body outs passed e1 e2 e3 e4 uses e5 =
      let w = some_and (agreement_in ks p.frame.sender tid) there in
      let u = w.0 in
      let g = uses u (subst (λ (a : List ℕ). agreement_in ks a tid ≡ Some u) (sym se) w.1) in
      let f : it ≡ item p (data_verdict verdict) = e3 ∙ ap (λ b. held_item p.destination b (data_verdict verdict)) e4 ∙ item_is p (data_verdict verdict) in
      taken_so before after p tid u g.0 is_tid w.1 bytes context verdict outs passed w.2.0 e1
      (e2 ∙ ap (λ n. contexts.data_context p.frame.sender (st p.frame.sender) p.tid p.number (Some n)) w.2.1)
      (subst (λ (x : Option Held). DataUse true p.number x clock u g.0 passed) f g.1)
      (e5 ∙ ap (λ a. ups a tid passed) se) (set_agrees g.0 g.2)

  pub left_from : IsSomeAnd (agreement_in ks s tid) (λ u. IsWanted u.window p.number → ⊥) → (outs : List Out) →
      UsesData false ks s tid p.number None clock ks2 [] → outs ≡ [] → DataComes before p.frame.sender p [] outs after
  left_from there outs uses e =
      let w = some_and (agreement_in ks s tid) there in
      let u = w.0 in
      let g = uses u w.1 in
      left_so before after p tid u g.0 is_tid (subst (λ (a : List ℕ). agreement_in ks a tid ≡ Some u) se w.1) outs w.2 g.1 e (set_agrees g.0 g.2)

  pub alone_from : (u : Using) (start : ℕ) → agreement_in ks p.frame.sender tid ≡ Some u → IsAlone u.window p.number → start ≡ u.window.start →
      (asked : List (Ask × ℕ)) (outs : List Out) → IsJudged st p (Some start) asked outs → UsesAlone ks s tid p.number clock ks2 →
      DataComes before p.frame.sender p asked outs after
  alone_from u start agreed alone starts asked outs j uses =
      let g = uses u (subst (λ (a : List ℕ). agreement_in ks a tid ≡ Some u) (sym se) agreed) in
      subst (λ (a : List (Ask × ℕ)). DataComes before p.frame.sender p a outs after) (sym j.asks)
      (taken_so before after p tid u g.0 is_tid agreed (spelling p.frame) _ j.verdict outs (frame_of p.number (Some (item p (data_verdict j.verdict)))) alone.wanted refl
      (ap (λ n. contexts.data_context p.frame.sender (st p.frame.sender) p.tid p.number (Some n)) starts)
      (g.1 (item p (data_verdict j.verdict))) (j.is ∙ alone_ups p tid (data_verdict j.verdict) is_tid) (set_agrees g.0 g.2))
