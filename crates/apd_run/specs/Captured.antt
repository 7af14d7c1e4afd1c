-- What a run prints, and what its capture has in the end.
use Rattle.std.specs.Prelude.{◌≡◌, ◌⊎◌, ℕ, List, ◌++◌, Option, Some, None}
use Rattle.bpf_regions.specs.declared.maps.Shape.{Shape}
use Rattle.apd_files.specs.Held.{Held}
use Rattle.apd_script.specs.Asked.{Asked}
use Rattle.apd_driver.specs.Captures.{Interval, IsOfRun, KeepsWhole}
use Rattle.apd_driver.specs.Capturing.{Begins, Recorded}
use Rattle.apd_driver.specs.declared.reports.report.Form.{Form}
use Rattle.apd_run.specs.NewRuns.{IsScriptAt}

-- A capture in the end, where it is known what it held before, and no time had passed: behind that, or alone in a new file,
-- stands what a capture has that began and got the packets of these intervals.
abbrev pub IsCaptureOf : Recorded → Recorded → List Interval → Type 0
IsCaptureOf None after intervals = Unit {0}
IsCaptureOf (Some (None, time)) after intervals = Unit {0}
IsCaptureOf (Some (Some held, time)) None intervals = ⊥
IsCaptureOf (Some (Some held, time)) (Some after) intervals =
    time ≡ 0 → (bytes : List ℕ) × IsOfRun bytes intervals
    × ((after.0 ≡ Some (held ++ bytes)) ⊎ (after.0 ≡ Some bytes))

-- A whole run of these lines, if they are known: its intervals are printed and recorded, and then its totals are printed.
-- Where it is known what such captures hold, the capture begins first, and in the end it is that of these intervals.
pub record KeepsCapture (known : Type 0) (form : Form) (script : Option (List (ℕ × Asked))) (old new : Option (List ℕ)) (before after : Recorded) : Type 0 where
  pub begun : Recorded
  pub begins : known → Begins before begun
  pub whole : KeepsWhole form script old new begun after
  pub capture : known → IsCaptureOf before after whole.keeps.keeps.intervals

-- the same of the script in the file at this path, where maps have some shapes
pub record KeepsScript (files : Held) (path : List ℕ) (known : Type 0) (form : Form) (old new : Option (List ℕ)) (before after : Recorded) : Type 0 where
  pub shapes : List Shape
  pub lines : List (ℕ × Asked)
  pub is_script : IsScriptAt files path shapes lines
  pub keeps : KeepsCapture known form (Some lines) old new before after
