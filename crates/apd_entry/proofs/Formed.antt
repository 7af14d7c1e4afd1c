-- Runs in the form that `--events` and `--color` name.
use Rattle.std.proofs.Common.{◌≡◌, ℕ, Bool, List, Option, Some, None, refl, subst}
use Rattle.apd_files.specs.Held.{Held}
use Rattle.apd_driver.specs.declared.reports.report.Form.{Form}
use Rattle.apd_driver.specs.Shows.{IsBroken}
use Rattle.apd_program.specs.Verifying.{within}
use Rattle.apd_run.specs.NewRuns.{NotConfigured, RunsInput}
use Rattle.apd_entry.specs.Forms.{RunsFormed, RunsLive, form_named}

module _ (files : Held) (states : ℕ) (work : Option ℕ) (config : List ℕ) (shown strict : Bool) where
  -- they name a form, and the run prints in this
  pub runs_formed : (form : Form) (events color : Option (List ℕ)) (old new : Option (List ℕ)) (status : ℕ)
      → Some form ≡ form_named shown events color → RunsInput files (within states work) config (record { strict = strict; form = form }) old new status
      → RunsLive files states work config shown strict events color old new status
  runs_formed form events color old new status is runs =
      subst (λ (f : Option Form). RunsFormed files states work config strict f old new status) is runs

  -- they name none, and nothing is written
  pub runs_unformed : (events color : Option (List ℕ)) (old : Option (List ℕ)) (status : ℕ) → None ≡ form_named shown events color → IsBroken status
      → RunsLive files states work config shown strict events color old old status
  runs_unformed events color old status is broken =
      subst (λ (f : Option Form). RunsFormed files states work config strict f old old status) is (refl, broken)

  formed_nothing : (form : Option Form) (old : Option (List ℕ)) (status : ℕ) → IsBroken status → RunsFormed files states work config strict form old old status
  formed_nothing None old status broken = (refl, broken)
  formed_nothing (Some form) old status broken = NotConfigured status refl broken

  -- nothing is written
  pub lives_nothing : (events color : Option (List ℕ)) (old : Option (List ℕ)) (status : ℕ) → IsBroken status
      → RunsLive files states work config shown strict events color old old status
  lives_nothing events color old status broken = formed_nothing (form_named shown events color) old status broken
