-- How long a program takes on the queries of a capture, as a clock tells it.
use Rattle.std.specs.Prelude.{◌≡◌, ◌≤◌, ℕ, ◌-◌, ◌/◌, ◌==◌, Bool, List, [], ◌++◌, codes, decimal, length, slice_index, Option, Some, None, if◌then◌else◌}
use Rattle.std.specs.List.Sorted.{IsNonDecreasing}
use Rattle.bpf_machine.specs.Verified.{Verified}
use Rattle.capture.specs.Packets.{Seen}
use Rattle.ap_model.specs.Readings.{Config}
use Rattle.apd_eval.specs.Evaluated.{IsEvaluated, judged_by}
use Rattle.apd_eval.specs.Sums.{sums_text}
use Rattle.apd_eval.specs.Table.{table_text}
use Rattle.apd_eval.specs.declared.row.Row.{Row}
use Rattle.apd_eval.specs.declared.rounds.Figures.{Figures}

-- the least of so many durations, and their median; of an even number, the lower of the two in the middle
pub record AreFigures (count : ℕ) (f : Figures) : Type 0 where
  pub durations : List ℕ
  pub many : length durations ≡ count
  pub ordered : IsNonDecreasing durations
  pub least : f.least ≡ slice_index durations 0
  pub median : f.median ≡ slice_index durations ((count - 1) / 2)
  pub at_most : f.least ≤ f.median

-- the figures of so many rounds; none if no clock tells them
abbrev pub IsTold : ℕ → Option Figures → Type 0
IsTold count None = Unit {0}
IsTold count (Some f) = AreFigures count f

-- the line of figures
abbrev pub figures_line : ℕ → Option Figures → List ℕ
figures_line count None =
    codes "repeated " ++ (decimal count ++ codes " times: no clock tells how long a run takes\n")
figures_line count (Some f) =
    codes "repeated " ++ (decimal count ++ (codes " times: " ++ (decimal f.least
    ++ (codes " ns a run at least, " ++ (decimal f.median ++ codes " ns in the median\n")))))

-- the same as a line of JSON
abbrev pub json_figures : ℕ → Option Figures → List ℕ
json_figures count None =
    codes "{\"repeats\":" ++ (decimal count ++ codes ",\"least\":null,\"median\":null}\n")
json_figures count (Some f) =
    codes "{\"repeats\":" ++ (decimal count ++ (codes ",\"least\":" ++ (decimal f.least
    ++ (codes ",\"median\":" ++ (decimal f.median ++ codes "}\n")))))

-- the figures of so many rows, if there are any
abbrev pub figures_below : ℕ → ℕ → Option Figures → Bool → List ℕ
figures_below rows count figures json =
    (if rows == 0 then [] else (if json then json_figures count figures else figures_line count figures))

-- the figures of rows, if there are any
abbrev pub figures_text : List Row → ℕ → Option Figures → Bool → List ℕ
figures_text rows count figures json = figures_below (length rows) count figures json

-- how long a run on the queries of so many rows took, in so many rounds; nothing without rows
pub record IsMeasured (rows count : ℕ) (json : Bool) (text : List ℕ) : Type 0 where
  pub figures : Option Figures
  pub told : IsTold count figures
  pub is : text ≡ figures_below rows count figures json

-- the table of the program's rows, and below it how long a run took in so many rounds
pub record IsRepeated (v : Verified) (draw : ℕ) (config : Config) (packets : List Seen) (json : Bool) (count : ℕ) (text : List ℕ) : Type 0 where
  pub rows : List Row
  pub evaluated : IsEvaluated v draw config packets rows
  pub figures : Option Figures
  pub told : IsTold count figures
  pub is : text ≡ table_text rows (sums_text (judged_by v config packets) rows json) json ++ figures_text rows count figures json
