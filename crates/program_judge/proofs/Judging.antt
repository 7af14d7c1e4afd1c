-- What a judge was asked, one query after another.
use Rattle.std.proofs.Common.{ℕ, List, [], ◌∷◌, ap, ◌∙◌, subst, Bor}
use Rattle.bpf_helpers.specs.declared.worker.WorkerView.{WorkerView}
use Rattle.bpf_helpers.specs.HookPorts.{given_by}
use Rattle.ap_model.specs.Asks.{Ask, Answered}
use Rattle.program_judge.specs.Programs.{Programs}
use Rattle.program_judge.specs.declared.judge.ProgramJudge.{ProgramJudge}
use Rattle.program_judge.specs.Verdicts.{GivesVerdict}
use Rattle.program_judge.specs.Judges.{Keeps, Judges}

pub judged : (j k : ProgramJudge) (asked : List (Ask × ℕ)) → Answered Judges j asked k →
    Keeps j k × Answered (GivesVerdict (given_by j.view) j.programs.now) j.state.now asked k.state.now
judged j k [] same = (
  record {
    programs = ap (λ (x : ProgramJudge). x.programs) same;
    view = ap (λ (x : ProgramJudge). x.view) same;
    state = ap (λ (x : ProgramJudge). x.state.ghost_name) same;
  },
  ap (λ (x : ProgramJudge). x.state.now) same,
)
judged j k (a ∷ asked) answered =
    let mid : ProgramJudge = answered.0 in
    let one : Judges j a.0 a.1 mid = answered.1 in
    let rest = judged mid k asked answered.2 in (
      record {
        programs = rest.0.programs ∙ one.keeps.programs;
        view = rest.0.view ∙ one.keeps.view;
        state = rest.0.state ∙ one.keeps.state;
      },
      (
        mid.state.now,
        (one.steps, one.given),
        subst (λ (v : WorkerView). Answered (GivesVerdict (given_by v) j.programs.now) mid.state.now asked k.state.now) one.keeps.view
            (subst (λ (s : Bor Programs). Answered (GivesVerdict (given_by mid.view) s.now) mid.state.now asked k.state.now) one.keeps.programs rest.1),
      ),
    )
