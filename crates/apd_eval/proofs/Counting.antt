-- Steps are counted one after another.
use Rattle.std.proofs.Common.{◌≡◌, ◌++◌, ◌+◌, ◌%◌, ◌^◌, ℕ, suc, zero, List, [], ◌∷◌, length, get_or, refl, sym, ◌∙◌, subst, ap, append_assoc}
use Rattle.std.proofs.lemmas.List.{append-nil, length-append, length-set}
use Rattle.bpf_regions.specs.declared.asks.Ask.{Ask}
use Rattle.bpf_model.specs.State.{Setting, State, Done, entry}
use Rattle.bpf_model.specs.Step.{next}
use Rattle.bpf_model.specs.Run.{Leads, Steps, Run, Ends}
use Rattle.bpf_machine.specs.declared.outcome.Outcome.{Outcome}
use Rattle.bpf_machine.specs.Runs.{Ran}
use Rattle.bpf_machine.specs.Standing.{Standing, setting_at, IsAfter, IsSameRun, HasEnded, HasGoneOn}
use Rattle.bpf_machine.specs.SoFar.{StoodSoFar}
use Rattle.bpf_machine.proofs.Stood.{leads_in, stood_on}
use Rattle.bpf_tagged.specs.Took.{Answered}
use Rattle.apd_eval.specs.Visits.{Visits, Passes, ticked, counted, Tallied}

pub counted_append : (a b counts : List ℕ) → counted (a ++ b) counts ≡ counted b (counted a counts)
counted_append [] b counts = refl
counted_append (slot ∷ a) b counts = counted_append a b (ticked slot counts)

pub counted_long : (slots counts : List ℕ) → length (counted slots counts) ≡ length counts
counted_long [] counts = refl
counted_long (slot ∷ slots) counts = counted_long slots (ticked slot counts) ∙ length-set counts slot ((get_or counts slot 0 + 1) % 2 ^ 64)

-- without counts nothing is counted
pub counted_none : (slots : List ℕ) → counted slots [] ≡ []
counted_none [] = refl
counted_none (slot ∷ slots) = counted_none slots

-- one more step
Visits-more : (p : Setting) (slots : List ℕ) (s : State) (l : List (Ask × ℕ)) (mid : State) (l2 : List (Ask × ℕ)) (s2 : State) (slot : ℕ) →
    Visits p slots s l mid → Leads p.shapes (next p mid) l2 s2 → slot ≡ mid.pc → Visits p (slots ++ slot ∷ []) s (l ++ l2) s2
unfolding Visits
Visits-more p [] s l mid l2 s2 slot w leads here =
    (here ∙ ap (λ (t : State). t.pc) (sym w.1), s2, l2, [], subst (λ t. Leads p.shapes (next p t) l2 s2) (sym w.1) leads, (refl, refl), ap (λ t. t ++ l2) w.0 ∙ sym (append-nil l2))
Visits-more p (x ∷ slots) s l mid l2 s2 slot w leads here =
    (w.0, w.1, w.2, w.3 ++ l2, w.4, Visits-more p slots w.1 w.3 mid l2 s2 slot w.5 leads here, ap (λ t. t ++ l2) w.6 ∙ append_assoc w.2 w.3 l2)

one_longer : (slots : List ℕ) (slot n : ℕ) → n ≡ length slots → n + 1 ≡ length (slots ++ slot ∷ [])
one_longer slots slot n e = ap (λ k. k + 1) e ∙ sym (length-append slots (slot ∷ []))

-- each run makes its steps at some slots
record Visiting (p : Setting) (n : ℕ) (s : State) (l : List (Ask × ℕ)) (s2 : State) : Type 0 where
  slots : List ℕ
  visits : Visits p slots s l s2
  many : length slots ≡ n

visits_of : (p : Setting) (n : ℕ) (s : State) (l : List (Ask × ℕ)) (s2 : State) → Steps p n s l s2 → Visiting p n s l s2
unfolding Steps Visits
visits_of p zero s l s2 w = record { slots = []; visits = w; many = refl }
visits_of p (suc n) s l s2 w =
    let rest = visits_of p n w.0 w.2 s2 w.4 in
    record {
      slots = s.pc ∷ rest.slots;
      visits = (refl, w.0, w.1, w.2, w.3, rest.visits, w.5);
      many = ap suc rest.many;
    }

module _ {S : Type 0} (R : S → Ask → ℕ → S → Type 0) where
  -- a run that isn't counted
  pub uncounted : (p : Setting) (q q2 : S) (outcome : Outcome) → Ran R p q q2 outcome → Tallied R p q q2 [] [] outcome
  uncounted p q q2 outcome ran =
      let run = ran.ends.run in
      let made = visits_of p run.0 entry ran.asked ran.ends.last run.2 in
      let slots : List ℕ = made.slots ++ ran.ends.last.pc ∷ [] in
      record {
        ran = ran;
        slots = slots;
        passes = record { last = ran.ends.last; before = made.slots; steps = made.visits; exit = ran.ends.exit; all = refl };
        many = sym (one_longer made.slots ran.ends.last.pc run.0 (sym made.many)) ∙ sym run.1;
        is_counted = sym (counted_none slots);
      }

  -- the steps so far
  pub record TallySoFar (p : Setting) (q q2 : S) (counts counts' : List ℕ) (b : Standing) : Type 0 where
    pub far : StoodSoFar R p q q2 b
    pub slots : List ℕ
    pub visits : Visits p slots entry far.asked far.state
    pub many : b.steps ≡ length slots
    pub is_counted : counts' ≡ counted slots counts

  pub tally_begins : (p : Setting) (q : S) (b : Standing) (counts : List ℕ) → setting_at b ≡ p → b.steps ≡ 0 → IsAfter b [] entry → TallySoFar p q q counts counts b
  unfolding Visits Answered
  tally_begins p q b counts e none h = record { far = record { setting = e; asked = []; state = entry; listed = refl; after = h }; slots = []; visits = (refl, refl); many = none; is_counted = refl }

  pub tally_on : (p : Setting) (q q2 q3 : S) (b b2 : Standing) (counts counts' more : List ℕ) (slot : ℕ) (h : TallySoFar p q q2 counts counts' b) → slot ≡ b.pc → more ≡ ticked slot counts' → IsSameRun b b2
      → HasGoneOn R b b2 q2 q3 h.far.asked h.far.state → TallySoFar p q q3 counts more b2
  unfolding stood_on
  tally_on p q q2 q3 b b2 counts counts' more slot h here ticks same on =
      record {
        far = stood_on R p q q2 q3 b b2 h.far same on;
        slots = h.slots ++ slot ∷ [];
        visits = Visits-more p h.slots entry h.far.asked h.far.state on.now on.state slot h.visits (leads_in b p on.now h.far.state on.state h.far.setting on.leads) (here ∙ sym h.far.after.stands.slot);
        many = on.count ∙ one_longer h.slots slot b.steps h.many;
        is_counted = ticks ∙ (ap (ticked slot) h.is_counted ∙ sym (counted_append h.slots (slot ∷ []) counts));
      }

  pub tally_ends : (p : Setting) (q q2 q3 : S) (b b2 : Standing) (counts counts' more : List ℕ) (slot : ℕ) (outcome : Outcome) (h : TallySoFar p q q2 counts counts' b) → slot ≡ b.pc → more ≡ ticked slot counts'
      → HasEnded b b2 q2 q3 h.far.state outcome → Tallied R p q q3 counts more outcome
  tally_ends p q q2 q3 b b2 counts counts' more slot outcome h here ticks e =
      record {
        ran = record {
          asked = h.far.asked;
          listed = subst (λ x. Answered R q h.far.asked x) (sym e.unasked) h.far.listed;
          noted = h.far.state.notes;
          ends = record {
            last = h.far.state;
            run = (b.steps, e.steps, subst (λ x. Run x b.steps h.far.asked h.far.state) h.far.setting h.far.after.run);
            exit = subst (λ x. next x h.far.state ≡ Done outcome.r0) h.far.setting e.exit;
            noted = refl;
          };
          first = e.notes;
        };
        slots = h.slots ++ slot ∷ [];
        passes = record {
          last = h.far.state;
          before = h.slots;
          steps = h.visits;
          exit = subst (λ x. next x h.far.state ≡ Done outcome.r0) h.far.setting e.exit;
          all = ap (λ at. h.slots ++ at ∷ []) (here ∙ sym h.far.after.stands.slot);
        };
        many = sym (e.steps ∙ one_longer h.slots slot b.steps h.many);
        is_counted = ticks ∙ (ap (ticked slot) h.is_counted ∙ sym (counted_append h.slots (slot ∷ []) counts));
      }
