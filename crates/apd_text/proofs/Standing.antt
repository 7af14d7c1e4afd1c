-- Each step begins an instruction.
use Rattle.std.proofs.Common.{◌≡◌, ℕ, List, [], ◌∷◌, Option, Some, None, refl, sym, subst}
use Rattle.std.specs.List.{All}
use Rattle.std.proofs.lemmas.List.Elements.{All-append, All-cons, All-nil}
use Rattle.bpf_insn.specs.declared.insn.Insn.{Insn}
use Rattle.bpf_regions.specs.declared.asks.Ask.{Ask}
use Rattle.bpf_decode.specs.Program.{Begins}
use Rattle.bpf_model.specs.State.{Setting, State, Done}
use Rattle.bpf_model.specs.Step.{next_at}
use Rattle.bpf_model.specs.Run.{Leads}
use Rattle.bpf_machine.specs.declared.outcome.Step.{Step}
use Rattle.bpf_machine.specs.declared.outcome.Outcome.{Outcome}
use Rattle.bpf_machine.specs.Runs.{Logged, Traced}

begins_where_it_leads : (p : Setting) (s s2 : State) (l : List (Ask × ℕ)) (o : Option (Option Insn)) → Leads p.shapes (next_at p o s) l s2 → (i : Insn) × (o ≡ Some (Some i))
begins_where_it_leads p s s2 l None leads = absurd leads
begins_where_it_leads p s s2 l (Some None) leads = absurd leads
begins_where_it_leads p s s2 l (Some (Some i)) leads = (i, refl)

begins_where_it_ends : (p : Setting) (s : State) (r0 : ℕ) (o : Option (Option Insn)) → next_at p o s ≡ Done r0 → (i : Insn) × (o ≡ Some (Some i))
begins_where_it_ends p s r0 None done = cc
begins_where_it_ends p s r0 (Some None) done = cc
begins_where_it_ends p s r0 (Some (Some i)) done = (i, refl)

abbrev pub Stands : Setting → Step → Type 0
Stands p step = Begins p.code step.pc

Logged-stands : (p : Setting) (log : List Step) (s s2 : State) (l : List (Ask × ℕ)) → Logged p log s l s2 → All (Stands p) log
unfolding Logged
Logged-stands p [] s s2 l h = All-nil (Stands p)
Logged-stands p (step ∷ log) s s2 l h =
    let At : ℕ → Type 0 = λ pc. Begins p.code pc in
    All-cons (Stands p) step log (subst At (sym h.4.at) (begins_where_it_leads p s h.0 h.1 _ h.3)) (Logged-stands p log h.0 s2 h.2 h.5)

pub Traced-stands : {S : Type 0} (R : S → Ask → ℕ → S → Type 0) (p : Setting) (q q2 : S) (log : List Step) (outcome : Outcome) → Traced R p q q2 log outcome → All (Stands p) log
Traced-stands {S} R p q q2 log outcome run =
    let P : List Step → Type 0 = All (Stands p) in
    let exits = begins_where_it_ends p run.last outcome.r0 _ run.exit in
    subst P (sym run.all) (All-append (Stands p) run.before _ (Logged-stands p run.before _ run.last run.asked run.steps)
    (All-cons (Stands p) _ [] exits (All-nil (Stands p))))
