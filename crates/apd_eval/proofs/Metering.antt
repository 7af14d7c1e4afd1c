-- A run over tables that is counted, and the verdict that it gives.
use Rattle.std.proofs.Common.{◌≡◌, ◌≤◌, ◌==◌, ◌∙◌, ℕ, suc, true, List, [], ◌∷◌, length, refl, Option, Some, sym, ap, subst, arith}
use Rattle.std.proofs.lemmas.Bool.Decides.{Decides-eqb}
use Rattle.bpf_model.specs.State.{Setting}
use Rattle.bpf_model.specs.Run.{Safe}
use Rattle.bpf_machine.specs.declared.outcome.Outcome.{Outcome}
use Rattle.bpf_machine.specs.Runs.{setting_of}
use Rattle.bpf_machine.specs.Verified.{Verified}
use Rattle.bpf_helpers.specs.Hooked.{Given, Held, Gives, IsFitting, shapes_of}
use Rattle.bpf_helpers.specs.declared.worker.WorkerView.{WorkerView}
use Rattle.bpf_helpers.specs.HookPorts.{given_by, PortGives}
use Rattle.bpf_helpers.specs.declared.hook_port.HookPort.{HookPort}
use Rattle.bpf_regions.specs.declared.asks.Ask as program
use Rattle.bpf_tagged.specs.Took.{Answered}
use Rattle.bpf_helpers.proofs.Asked.{asked_of_state}
use Rattle.apd_eval.proofs.Counting.{counted_long}
use Rattle.ap_model.specs.Asks.{Ask}
use Rattle.apd_eval.specs.Metered.{Metered}
use Rattle.apd_eval.specs.Rulings.{GivesMetered}
use Rattle.apd_eval.specs.Visits.{Tallied}

-- a list of no length is empty
pub empty_is : (xs : List ℕ) → (length xs == 0) ≡ true → xs ≡ []
empty_is [] e = refl
empty_is (x ∷ xs) e =
    let none : suc (length xs) ≡ 0 = (Decides-eqb (length (x ∷ xs)) 0).0 e in
    absurd (omega (arith, none))

-- What a run asked a port over a state, it asked the state; `after` is the state once the port is gone.
pub tallied_by_state : (setting : Setting) (p q : HookPort) (counts counts' : List ℕ) (outcome : Outcome) → Tallied PortGives setting p q counts counts' outcome
    → (after : Held) → (p.state.ghost_name ≡ q.state.ghost_name → after ≡ q.state.now) → Tallied (Gives (given_by p.view)) setting p.state.now after counts counts' outcome
tallied_by_state setting p q counts counts' outcome t after written =
    let asked = asked_of_state p q t.ran.asked t.ran.listed in
    record {
      ran = record {
        asked = t.ran.asked;
        listed = subst (λ (h : Held). Answered (Gives (given_by p.view)) p.state.now t.ran.asked h) (sym (written (sym asked.0.state))) asked.1;
        noted = t.ran.noted;
        ends = t.ran.ends;
        first = t.ran.first;
      };
      slots = t.slots;
      passes = t.passes;
      many = t.many;
      is_counted = t.is_counted;
    }

-- the port keeps the state that it borrowed
pub keeps_state : (setting : Setting) (p q : HookPort) (counts counts' : List ℕ) (outcome : Outcome) → Tallied PortGives setting p q counts counts' outcome → q.state.ghost_name ≡ p.state.ghost_name
keeps_state setting p q counts counts' outcome t = (asked_of_state p q t.ran.asked t.ran.listed).0.state

-- there are as many counts then
pub as_long : {S : Type 0} (R : S → program.Ask → ℕ → S → Type 0) (setting : Setting) (q q2 : S) (counts counts' : List ℕ) (outcome : Outcome) → Tallied R setting q q2 counts counts' outcome → length counts' ≡ length counts
as_long R setting q q2 counts counts' outcome t = ap length t.is_counted ∙ counted_long t.slots counts

-- the verdict of a program on a query
pub metered : (g : Given) (o : Option Verified) (v : Verified) (h : Metered) (ask : Ask) (h' : Metered) (outcome : Outcome) → o ≡ Some v → v.hook ≡ ask.hook → v.code.shapes ≡ shapes_of g.maps
    → Safe v.code.slots v.code.shapes v.budget → outcome.steps ≤ v.budget → Tallied (Gives g) (setting_of v.code ask.frame ask.context) h.held h'.held h.counts h'.counts outcome
    → GivesMetered g o h ask outcome.r0 outcome.steps h'
metered g o v h ask h' outcome is hook shapes safe within t =
    subst (λ (x : Option Verified). GivesMetered g x h ask outcome.r0 outcome.steps h') (sym is) record {
      run = record {
        for_hook = hook;
        for_maps = shapes;
        safe = safe;
        asked = t.ran.asked;
        answered = t.ran.listed;
        notes = t.ran.noted;
        ends = t.ran.ends;
        within = within;
      };
      slots = t.slots;
      passes = t.passes;
      many = t.many;
      is_counted = t.is_counted;
    }

-- the state's seats still fit
pub fits : (setting : Setting) (p q : HookPort) (counts counts' : List ℕ) (outcome : Outcome) → Tallied PortGives setting p q counts counts' outcome → IsFitting p.view.maps.now p.view.worker q.state.now.seats
fits setting p q counts counts' outcome t =
    subst (λ (v : WorkerView). IsFitting v.maps.now v.worker q.state.now.seats) (asked_of_state p q t.ran.asked t.ran.listed).0.view q.fitting

-- the same of equal states and counts
pub moved : (R : Held → program.Ask → ℕ → Held → Type 0) (setting : Setting) (q q' q2 : Held) (c c1 d d1 : List ℕ) (outcome : Outcome) → q ≡ q' → c ≡ c1 → d ≡ d1 → Tallied R setting q' q2 c1 d1 outcome → Tallied R setting q q2 c d outcome
moved R setting q q' q2 c c1 d d1 outcome e f g t =
    subst (λ (x : Held). Tallied R setting x q2 c d outcome) (sym e) (subst (λ (x : List ℕ). Tallied R setting q' q2 x d outcome) (sym f) (subst (λ (x : List ℕ). Tallied R setting q' q2 c1 x outcome) (sym g) t))
