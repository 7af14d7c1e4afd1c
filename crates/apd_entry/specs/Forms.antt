-- How a run prints.
use Rattle.std.specs.Prelude.{◌≡◌, ℕ, List, Bool, true, false, Option, Some, None, codes, if◌then◌else◌}
use Rattle.std.specs.Str.{bytes_eq}
use Rattle.apd_driver.specs.declared.reports.report.Form.{Form}
use Rattle.apd_driver.specs.declared.reports.report.Style.{Style}
use Rattle.apd_driver.specs.declared.reports.report.Style.TheVariants.{Lines, Notices, Json}
use Rattle.apd_driver.specs.Shows.{IsBroken}
use Rattle.apd_driver.specs.declared.manner.Manner.{Manner}
use Rattle.apd_files.specs.Held.{Held}
use Rattle.apd_run.specs.NewRuns.{RunsInput}
use Rattle.apd_program.specs.Verifying.{within}

-- a run that prints lines, without colours
abbrev pub in_lines : Bool → Manner
in_lines strict = record { strict = strict; form = record { style = Lines; colours = false } }

-- the style with a name
abbrev pub style_named : List ℕ → Option Style
style_named name =
    (if bytes_eq name (codes "text") then Some Notices
    else (if bytes_eq name (codes "json") then Some Json else None))

-- the style that `--events` names; without it, lines
abbrev pub style_of : Option (List ℕ) → Option Style
style_of None = Some Lines
style_of (Some name) = style_named name

-- whether a word asks for colours, if a terminal shows the output or doesn't
abbrev pub colours_named : Bool → List ℕ → Option Bool
colours_named shown name =
    (if bytes_eq name (codes "auto") then Some shown
    else (if bytes_eq name (codes "always") then Some true
    else (if bytes_eq name (codes "never") then Some false else None)))

-- whether `--color` asks for colours; without it, a terminal gets them
abbrev pub colours_of : Bool → Option (List ℕ) → Option Bool
colours_of shown None = Some shown
colours_of shown (Some name) = colours_named shown name

-- a style, with colours or without
abbrev pub form_of : Option Style → Option Bool → Option Form
form_of (Some style) (Some colours) = Some (record { style = style; colours = colours })
form_of (Some style) None = None
form_of None colours = None

-- the form that `--events` and `--color` name, where a terminal shows the output or doesn't
abbrev pub form_named : Bool → Option (List ℕ) → Option (List ℕ) → Option Form
form_named shown events color = form_of (style_of events) (colours_of shown color)

-- lines run as they come, in this form, with these files and limits, under the configuration in the file at this path;
-- without a form nothing is written, and the status is that of a fault
abbrev pub RunsFormed : Held → ℕ → Option ℕ → List ℕ → Bool → Option Form → Option (List ℕ) → Option (List ℕ) → ℕ → Type 0
RunsFormed files states work config strict None old new status = (new ≡ old) × IsBroken status
RunsFormed files states work config strict (Some form) old new status =
    RunsInput files (within states work) config (record { strict = strict; form = form }) old new status

-- the same in the form that `--events` and `--color` name
abbrev pub RunsLive : Held → ℕ → Option ℕ → List ℕ → Bool → Bool → Option (List ℕ) → Option (List ℕ) → Option (List ℕ) → Option (List ℕ) → ℕ → Type 0
RunsLive files states work config shown strict events color old new status =
    RunsFormed files states work config strict (form_named shown events color) old new status
