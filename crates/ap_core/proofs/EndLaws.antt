-- The end of an agreement.
use Rattle.std.proofs.Common.{◌≡◌, ℕ, cond, Option, Some, None, List, [], ◌++◌, refl, sym, ap, subst, ◌∙◌}
use Rattle.std.specs.Prelude.{is_some, MatchOption}
use Rattle.assoc.specs.Standings.{Standings}
use Rattle.blockack.specs.Reading.{EndPassesUp}
use Rattle.ap_model.specs.declared.event.Out.{Out}
use Rattle.ap_model.specs.Readings.{Readings, Using, Held}
use Rattle.ap_model.specs.Changes.{Agrees}
use Rattle.ap_model.specs.Agreements.{ups, PassesHeld, none_held, held_up, Ends}
use Rattle.ap_agreements.proofs.Lookups.{still_none}
use Rattle.ap_agreements.specs.Tables.{Kept, key_of, agreement_in, Sets, held_under}
use Rattle.ap_core.specs.Handles.{PassesAll, held_replaced}

pub passes_some : (a : List ℕ) (tid : ℕ) (o : Option Using) (u : Using) (passed : List (ℕ × Held)) → o ≡ Some u → EndPassesUp u.window passed → PassesHeld a tid o (ups a tid passed)
passes_some a tid o u passed e h = subst (λ (p : Option Using). PassesHeld a tid p (ups a tid passed)) (sym e) (held_up u passed h)

pub passes_none : (a : List ℕ) (tid : ℕ) (o : Option Using) → o ≡ None → PassesHeld a tid o []
passes_none a tid o e = subst (λ (p : Option Using). PassesHeld a tid p []) (sym e) none_held

-- an agreement that exists
pub ended_so : (r r2 : Readings) (a : List ℕ) (tid : ℕ) (u : Using) (last outs : List Out) (passed : List (ℕ × Held)) → r.agreement a tid ≡ Some u →
    EndPassesUp u.window passed → outs ≡ ups a tid passed ++ last → Agrees r a tid None r2 → Ends r a tid last [] outs r2
ended_so r r2 a tid u last outs passed g ends e agrees =
    record {
      first = ups a tid passed;
      passes = passes_some a tid (r.agreement a tid) u passed g ends;
      settles = record { silent = refl; is = e ∙ sym (ap (λ (o : Option Using). cond (is_some o) (ups a tid passed ++ last) []) g) };
      agrees = agrees;
    }

-- one that doesn't exist
pub not_ended : (r r2 : Readings) (a : List ℕ) (tid : ℕ) (last outs : List Out) → r.agreement a tid ≡ None → outs ≡ [] → Agrees r a tid None r2 → Ends r a tid last [] outs r2
not_ended r r2 a tid last outs g e agrees =
    record {
      first = [];
      passes = passes_none a tid (r.agreement a tid) g;
      settles = record { silent = refl; is = e ∙ sym (ap (λ (o : Option Using). cond (is_some o) ([] ++ last) []) g) };
      agrees = agrees;
    }

-- ---- over a table of agreements

module _ (st : Standings) (ks ks2 : List Kept) (clock : ℕ) (a : List ℕ) (tid : ℕ) (last outs : List Out) where
  abbrev pub before : Readings
  before = record { standing = st; agreement = agreement_in ks; clock = clock }

  abbrev pub after : Readings
  after = record { standing = st; agreement = agreement_in ks2; clock = clock }

  pub end_of_none : agreement_in ks a tid ≡ None → outs ≡ [] → Ends before a tid last [] outs before
  end_of_none g e =
      not_ended before before a tid last outs g e (record { standing = λ q. refl; agreement = still_none ks a tid g; clock = refl })

  pub end_of_nothing : agreement_in ks a tid ≡ None → outs ≡ [] → Sets ks a tid None ks2 → Ends before a tid last [] outs after
  end_of_nothing g e sets = not_ended before after a tid last outs g e (record { standing = λ q. refl; agreement = sets; clock = refl })

  pub end_of : (k : Kept) (first : List Out) → (agreement_in ks a tid ≡ Some k.using) × (key_of k ≡ (a, tid)) → Sets ks a tid None ks2 →
      PassesAll k [] first → outs ≡ first ++ last → Ends before a tid last [] outs after
  end_of k first w sets passes e =
      let f : first ≡ ups a tid passes.passed = passes.is ∙ ap (λ (p : List ℕ × ℕ). ups p.0 p.1 passes.passed) w.1 in
      ended_so before after a tid k.using last outs passes.passed w.0 passes.ends (e ∙ ap (λ (t : List Out). t ++ last) f)
      (record { standing = λ q. refl; agreement = sets; clock = refl })

-- what a granted request passes up first
pub replaced_first : (ks : List Kept) (a : List ℕ) (tid : ℕ) (o : Option Kept) (first : List Out) →
    MatchOption o (agreement_in ks a tid ≡ None) (λ k. (agreement_in ks a tid ≡ Some k.using) × (key_of k ≡ (a, tid))) →
    MatchOption o (first ≡ []) (λ k. PassesAll k [] first) → PassesHeld a tid (agreement_in ks a tid) first
replaced_first ks a tid None first g e = subst (λ (t : List Out). PassesHeld a tid (agreement_in ks a tid) t) (sym e) (passes_none a tid (agreement_in ks a tid) g)
replaced_first ks a tid (Some k) first w passes =
    let f : first ≡ ups a tid passes.passed = passes.is ∙ ap (λ (p : List ℕ × ℕ). ups p.0 p.1 passes.passed) w.1 in
    subst (λ (t : List Out). PassesHeld a tid (agreement_in ks a tid) t) (sym f) (passes_some a tid (agreement_in ks a tid) k.using passes.passed w.0 passes.ends)

-- how many numbers that agreement holds
pub held_there : (ks : List Kept) (a : List ℕ) (tid : ℕ) (o : Option Kept) →
    MatchOption o (agreement_in ks a tid ≡ None) (λ k. (agreement_in ks a tid ≡ Some k.using) × (key_of k ≡ (a, tid))) →
    held_replaced o ≡ held_under (agreement_in ks a tid)
held_there ks a tid None g = ap (λ (o : Option Using). held_under o) (sym g)
held_there ks a tid (Some k) w = ap (λ (o : Option Using). held_under o) (sym w.0)
