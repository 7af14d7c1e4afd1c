-- What a judge was asked, one query after another.
use Rattle.std.proofs.Common.{◌≡◌, ◌≤◌, ℕ, List, [], ◌∷◌, Option, Some, None, refl, ap, ◌∙◌, subst, Bor}
use Rattle.bpf_regions.specs.declared.hooks.Hook.{Hook}
use Rattle.bpf_model.specs.Run.{Safe}
use Rattle.bpf_machine.specs.Runs.{Ran, setting_of}
use Rattle.bpf_machine.specs.Verified.{Verified}
use Rattle.bpf_machine.specs.declared.outcome.Outcome.{Outcome}
use Rattle.bpf_helpers.specs.Hooked.{Given, Gives, shapes_of}
use Rattle.hooks.specs.Verdicts.{no_program}
use Rattle.versions.specs.declared.list.Load.{Load}
use Rattle.versions.specs.Numbers.{number_at, numbers_of}
use Rattle.versions.specs.Sets.{IsFor, program_at, set_of}
use Rattle.hook_judge.specs.Counted.{Counted, counted_by, held_of, made_by}
use Rattle.hook_judge.specs.Sums.{counted}
use Rattle.bpf_helpers.specs.declared.worker.WorkerView.{WorkerView}
use Rattle.bpf_helpers.specs.HookPorts.{given_by}
use Rattle.versions.specs.declared.set.ProgramSet.{ProgramSet}
use Rattle.ap_model.specs.Asks.{Ask, Answered}
use Rattle.hook_judge.specs.declared.judge.SetJudge.{SetJudge}
use Rattle.hook_judge.specs.Verdicts.{CountedRun, GivesIn, GivesVerdict, VerdictOf}
use Rattle.hook_judge.specs.Judges.{Keeps, Judges, loads_of}

pub judged : (j k : SetJudge) (asked : List (Ask × ℕ)) → Answered Judges j asked k →
    Keeps j k × Answered (GivesVerdict (given_by j.view) (loads_of j)) j.state.now asked k.state.now
judged j k [] same = (
  record {
    set = ap (λ (x : SetJudge). x.set) same;
    view = ap (λ (x : SetJudge). x.view) same;
    state = ap (λ (x : SetJudge). x.state.ghost_name) same;
  },
  ap (λ (x : SetJudge). x.state.now) same,
)
judged j k (a ∷ asked) answered =
    let mid : SetJudge = answered.0 in
    let one : Judges j a.0 a.1 mid = answered.1 in
    let rest = judged mid k asked answered.2 in (
      record {
        set = rest.0.set ∙ one.keeps.set;
        view = rest.0.view ∙ one.keeps.view;
        state = rest.0.state ∙ one.keeps.state;
      },
      (
        mid.state.now,
        (one.steps, one.given),
        subst (λ (v : WorkerView). Answered (GivesVerdict (given_by v) (loads_of j)) mid.state.now asked k.state.now) one.keeps.view
            (subst (λ (s : Bor ProgramSet). Answered (GivesVerdict (given_by mid.view) s.now.loads) mid.state.now asked k.state.now) one.keeps.set rest.1),
      ),
    )

-- a run, counted once
counted_run : (g : Given) (load : ℕ) (v : Verified) (c c' : Counted) (ask : Ask) (o : Outcome) → IsFor (shapes_of g.maps) ask.hook v → Safe v.code.slots v.code.shapes v.budget
    → Ran (Gives g) (setting_of v.code ask.frame ask.context) (held_of c) (held_of c') o → o.steps ≤ v.budget → c'.counts ≡ counted_by load v o c.counts
    → CountedRun g load v c ask o.r0 o.steps c'
counted_run g load v c c' ask o fits safe ran within counts =
    record {
      run = record {
        for_hook = fits.hook_is;
        for_maps = fits.shapes_are;
        safe = safe;
        asked = ran.asked;
        answered = ran.listed;
        notes = ran.noted;
        ends = ran.ends;
        within = within;
      };
      counts = counts ∙ (ap (λ (h : Hook). counted h (made_by load v o.r0 o.steps o.notes.items) c.counts) fits.hook_is
          ∙ ap (λ (n : List ℕ). counted ask.hook (made_by load v o.r0 o.steps n) c.counts) ran.first);
    }

-- the verdict of a program
pub by_program : (g : Given) (loads : List Load) (load : ℕ) (v : Verified) (c c' : Counted) (ask : Ask) (o : Outcome) → Some v ≡ program_at ask.hook (set_of loads)
    → load ≡ number_at ask.hook (numbers_of loads) → IsFor (shapes_of g.maps) ask.hook v → Safe v.code.slots v.code.shapes v.budget
    → Ran (Gives g) (setting_of v.code ask.frame ask.context) (held_of c) (held_of c') o → o.steps ≤ v.budget → c'.counts ≡ counted_by load v o c.counts
    → GivesIn g loads c ask o.r0 o.steps c'
by_program g loads load v c c' ask o there number fits safe ran within counts =
    subst (λ (p : Option Verified). VerdictOf g (number_at ask.hook (numbers_of loads)) p c ask o.r0 o.steps c') there
    (subst (λ (n : ℕ). CountedRun g n v c ask o.r0 o.steps c') number (counted_run g load v c c' ask o fits safe ran within counts))

-- the verdict without one
pub by_table : (g : Given) (loads : List Load) (c : Counted) (ask : Ask) (verdict : ℕ) → None ≡ program_at ask.hook (set_of loads) → verdict ≡ no_program ask.hook
    → GivesIn g loads c ask verdict 0 c
by_table g loads c ask verdict none is =
    subst (λ (p : Option Verified). VerdictOf g (number_at ask.hook (numbers_of loads)) p c ask verdict 0 c) none (is, refl, refl)
