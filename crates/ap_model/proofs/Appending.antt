-- Runs one after another form a run: of a shard, and of an access point.
use Rattle.std.proofs.Common.{◌≡◌, ℕ, Bool, true, false, cond, Option, List, [], ◌∷◌, ◌++◌, refl, sym, ap, subst, ◌∙◌, append_assoc}
use Rattle.std.specs.Prelude.{◌==◌}
use Rattle.ap_model.specs.declared.event.Event.{Event}
use Rattle.ap_model.specs.declared.event.Event.TheVariants as event
use Rattle.ap_model.specs.declared.event.Out.{Out}
use Rattle.ap_model.specs.Asks.{Ask, Answered}
use Rattle.ap_model.specs.Readings.{Readings, Rules}
use Rattle.ap_model.specs.Runs.{Entry, Run, rests, goes_on}
use Rattle.ap_model.specs.AccessPoint.{Turn, At, Everywhere, AreTurns, no_event, refused, at_its_shard, ticked, entries_of, asked_of, EventsLead}

pub run_append : (c : Rules) {r mid r2 : Readings} {es fs : List Entry} → Run c r es mid → Run c mid fs r2 → Run c r (es ++ fs) r2
run_append c (rests r) h = h
run_append c (goes_on r mid r2 e later step t) h = goes_on r mid _ e _ step (run_append c t h)

pub turns_append : {es fs : List Event} {rs ss : List (Option (List Out))} {ts us : List Turn} → AreTurns es rs ts → AreTurns fs ss us → AreTurns (es ++ fs) (rs ++ ss) (ts ++ us)
turns_append no_event h = h
turns_append (refused e es rs ts t) h = refused e _ _ _ (turns_append t h)
turns_append (at_its_shard e s es rs ts f t) h = at_its_shard e s _ _ _ f (turns_append t h)
turns_append (ticked n outs es rs ts t) h = ticked n outs _ _ _ (turns_append t h)

entries_by : (b : Bool) (e : Entry) (xs ys zs : List Entry) → zs ≡ xs ++ ys → cond b (e ∷ zs) zs ≡ cond b (e ∷ xs) xs ++ ys
entries_by true e xs ys zs h = ap (λ (t : List Entry). e ∷ t) h
entries_by false e xs ys zs h = h

pub entries_append : (s : ℕ) (ts us : List Turn) → entries_of s (ts ++ us) ≡ entries_of s ts ++ entries_of s us
entries_append s [] us = refl
entries_append s (At shard e ∷ ts) us = entries_by (shard == s) e (entries_of s ts) (entries_of s us) (entries_of s (ts ++ us)) (entries_append s ts us)
entries_append s (Everywhere units outs ∷ ts) us =
    ap (λ (t : List Entry). record { event = event.Tick units; asked = []; outs = outs s } ∷ t) (entries_append s ts us)

pub asked_append : (ts us : List Turn) → asked_of (ts ++ us) ≡ asked_of ts ++ asked_of us
asked_append [] us = refl
asked_append (At shard e ∷ ts) us =
    ap (λ (t : List (Ask × ℕ)). e.asked ++ t) (asked_append ts us) ∙ sym (append_assoc e.asked (asked_of ts) (asked_of us))
asked_append (Everywhere units outs ∷ ts) us = asked_append ts us

pub answered_append : {S : Type 0} (R : S → Ask → ℕ → S → Type 0) (p mid p2 : S) (xs ys : List (Ask × ℕ)) → Answered R p xs mid → Answered R mid ys p2 → Answered R p (xs ++ ys) p2
answered_append R p mid p2 [] ys e h = subst (λ q. Answered R q ys p2) e h
answered_append R p mid p2 (x ∷ xs) ys h g = (h.0, h.1, answered_append R h.0 mid p2 xs ys h.2 g)

-- what events lead to, followed by what later events lead to
pub leads_append : {S : Type 0} (R : S → Ask → ℕ → S → Type 0) (c : ℕ → Rules) (r mid r2 : ℕ → Readings) (es fs : List Event) (j k l : S) (rs ss : List (Option (List Out))) →
    EventsLead R c r es j rs mid k → EventsLead R c mid fs k ss r2 l → EventsLead R c r (es ++ fs) j (rs ++ ss) r2 l
leads_append R c r mid r2 es fs j k l rs ss h g =
    record {
      turns = h.turns ++ g.turns;
      are = turns_append h.are g.are;
      run = λ s lt.
          subst (λ (t : List Entry). Run (c s) (r s) t (r2 s)) (sym (entries_append s h.turns g.turns))
          (run_append (c s) (h.run s lt) (g.run s lt));
      listed =
          subst (λ (t : List (Ask × ℕ)). Answered R j t l) (sym (asked_append h.turns g.turns))
          (answered_append R j k l (asked_of h.turns) (asked_of g.turns) h.listed g.listed);
    }
