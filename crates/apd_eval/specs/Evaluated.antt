-- The rows of a capture, judged by a program.
use Rattle.std.specs.Prelude.{◌≡◌, ℕ, Bool, List, [], Some}
use Rattle.apd_eval.specs.Metered.{Metered}
use Rattle.bpf_machine.specs.Verified.{Verified}
use Rattle.capture.specs.Packets.{Seen}
use Rattle.ap_model.specs.Readings.{Config}
use Rattle.program_judge.specs.Programs.{no_programs, replaced}
use Rattle.apd_eval.specs.Asked.{IsFollowed}
use Rattle.apd_eval.specs.Sums.{Judged, sums_text}
use Rattle.apd_eval.specs.Table.{table_text}
use Rattle.apd_eval.specs.declared.row.Row.{Row}
use Rattle.apd_eval.specs.declared.tried.Policy.{Policy}

-- The program is the only one of a new access point, and `draw` is the first number drawn. The rows are its verdicts.
-- The steps of their runs take the counts from one list to another.
pub record IsJudged (v : Verified) (draw : ℕ) (config : Config) (packets : List Seen) (counts : List ℕ) (rows : List Row) (counts' : List ℕ) : Type 0 where
  pub policy : Policy
  pub hook : policy.hook ≡ v.hook
  pub programs : policy.programs.now ≡ replaced v.hook (no_programs v.code.shapes) (Some v)
  pub first : Metered
  pub drawn : first.held.draw ≡ draw
  pub from : first.counts ≡ counts
  pub last : Metered
  pub to : last.counts ≡ counts'
  pub followed : IsFollowed policy config packets first rows last

-- the same without counts
abbrev pub IsEvaluated : Verified → ℕ → Config → List Seen → List Row → Type 0
IsEvaluated v draw config packets rows = (counts' : List ℕ) × IsJudged v draw config packets [] rows counts'

-- what was judged
abbrev pub judged_by : Verified → Config → List Seen → Judged
judged_by v config packets = record { hook = v.hook; budget = v.budget; address = config.bssid; packets = packets }

-- the text of such rows
pub record IsEvaluation (v : Verified) (draw : ℕ) (config : Config) (packets : List Seen) (json : Bool) (text : List ℕ) : Type 0 where
  pub rows : List Row
  pub evaluated : IsEvaluated v draw config packets rows
  pub is : text ≡ table_text rows (sums_text (judged_by v config packets) rows json) json
