-- Runs on a new access point.
use Rattle.std.proofs.Common.{◌≡◌, ℕ, List, Option, Some, None, subst, ◌∙◌}
use Rattle.bpf_verifier.specs.declared.limit.Limits.{Limits}
use Rattle.apd_config.specs.declared.configuration.Configuration.{Configuration}
use Rattle.apd_files.specs.Held.{Held, Holds}
use Rattle.apd_script.specs.Asked.{Asked}
use Rattle.apd_script.specs.Script.{IsScript}
use Rattle.apd_driver.specs.declared.manner.Manner.{Manner}
use Rattle.apd_run.specs.NewRuns.{Configured, IsConfigurationAt, Plan, Read, RunsInput, RunsNew, RunsScript, plan_of}

-- a run after what changed no file and printed nothing
pub runs_same : (files : Held) {files2 : Held} {limits : Limits} {plan : Plan} {manner : Manner} {script : Option (List (ℕ × Asked))} {old mid new : Option (List ℕ)} {status : ℕ} → files2 ≡ files → mid ≡ old
    → RunsNew files2 limits plan manner script mid new status → RunsNew files limits plan manner script old new status
runs_same files {files2} {limits} {plan} {manner} {script} {old} {mid} {new} {status} files_are same runs =
    subst (λ (f : Held). RunsNew f limits plan manner script old new status) files_are
    (subst (λ (o : Option (List ℕ)). RunsNew files2 limits plan manner script o new status) same runs)

-- a run at an access point of the same plan
pub runs_under : {files : Held} {limits : Limits} (plan : Plan) {plan2 : Plan} {manner : Manner} {script : Option (List (ℕ × Asked))} {old new : Option (List ℕ)} {status : ℕ} → plan2.link ≡ plan.link → plan2.maps ≡ plan.maps
    → RunsNew files limits plan2 manner script old new status → RunsNew files limits plan manner script old new status
runs_under {files} {limits} plan {plan2} {manner} {script} {old} {new} {status} link maps runs =
    subst (λ (p : Plan). RunsNew files limits p manner script old new status) (λ i. record { link = link i; maps = maps i }) runs

-- the same file, if no file changed
pub configured_still : {files files2 : Held} {path : List ℕ} {c : Configuration} → files2 ≡ files → IsConfigurationAt files2 path c → IsConfigurationAt files path c
configured_still {files} {files2} {path} {c} same h = subst (λ (f : Held). IsConfigurationAt f path c) same h

-- the run of an input whose configuration was read from a file
pub runs_configured : (files : Held) {files2 : Held} {limits : Limits} {config : List ℕ} {manner : Manner} {c : Configuration} {old mid new : Option (List ℕ)} {status : ℕ} → files2 ≡ files → mid ≡ old
    → IsConfigurationAt files config c → RunsNew files2 limits (plan_of c) manner None mid new status → RunsInput files limits config manner old new status
runs_configured files {files2} {limits} {config} {manner} {c} {old} {mid} {new} {status} files_are same at runs = Configured c status at (runs_same files files_are same runs)

-- the run of a script that was read from a file
pub runs_read : (files : Held) {files1 files2 : Held} {limits : Limits} {config path : List ℕ} {manner : Manner} {c : Configuration} {text text1 : List ℕ} {lines : List (ℕ × Asked)}
    {script : Option (List (ℕ × Asked))} {old mid new : Option (List ℕ)} {status : ℕ} → IsConfigurationAt files config c → files1 ≡ files → files2 ≡ files1 → Holds files1 path text → text1 ≡ text
    → IsScript c.maps text1 lines → script ≡ Some lines → mid ≡ old → RunsNew files2 limits (plan_of c) manner script mid new status → RunsScript files limits config path manner old new status
runs_read files {files1} {files2} {limits} {config} {path} {manner} {c} {text} {text1} {lines} {script} {old} {mid} {new} {status} at first second holds text_is is_script lines_are same runs =
    Read c lines status at
    (record {
      text = text;
      holds = subst (λ (f : Held). Holds f path text) first holds;
      is_script = subst (λ (t : List ℕ). IsScript c.maps t lines) text_is is_script;
    })
    (runs_same files (second ∙ first) same (subst (λ (s : Option (List (ℕ × Asked))). RunsNew files2 limits (plan_of c) manner s mid new status) lines_are runs))
