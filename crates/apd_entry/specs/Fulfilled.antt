-- What the program does with its words.
use Rattle.std.specs.Prelude.{ℕ, Bool, List, Option}
use Rattle.apd_files.specs.Held.{Held}
use Rattle.apd_words.specs.Asked.{Wanted, Run, Live, Answer}
use Rattle.apd_run.specs.NewRuns.{RunsScript}
use Rattle.apd_program.specs.Program.{Performs}
use Rattle.apd_program.specs.Verifying.{within}
use Rattle.apd_entry.specs.Captured.{lines_known}
use Rattle.apd_entry.specs.Forms.{in_lines, RunsLive}

-- what is wanted is done: a script runs from its first line, or lines as they come, whose answers a terminal shows or
-- doesn't, under the configuration in a file
abbrev pub Fulfils : Bool → Held → Wanted → Option (List ℕ) → Option (List ℕ) → ℕ → Type 0
Fulfils shown files (Answer a output) old new status = Performs files a output old new status
Fulfils shown files (Run config script workers states work quiet strict verbose capture replaces) old new status =
    RunsScript files (within states work) config script (in_lines strict) (lines_known capture old) (lines_known capture new) status
Fulfils shown files (Live config workers states work strict verbose clock events color capture replaces) old new status =
    RunsLive files states work config shown strict events color (lines_known capture old) (lines_known capture new) status
