-- Two programs on a capture.
use Rattle.std.specs.Prelude.{◌≡◌, ◌↔◌, ℕ, Bool, nat_lt, List, [], Some, length}
use Rattle.apd_eval.specs.Metered.{Metered}
use Rattle.bpf_machine.specs.Verified.{Verified}
use Rattle.capture.specs.Packets.{Seen}
use Rattle.ap_model.specs.Readings.{Config}
use Rattle.program_judge.specs.Programs.{no_programs, replaced}
use Rattle.apd_eval.specs.Evaluated.{IsEvaluated}
use Rattle.apd_eval.specs.Again.{AreContrasts}
use Rattle.apd_eval.specs.Changes.{AllAgree, AreChanges, change_sums, changes_text}
use Rattle.apd_eval.specs.declared.row.Row.{Row}
use Rattle.apd_eval.specs.declared.again.Contrast.{Contrast}
use Rattle.apd_eval.specs.declared.tried.Policy.{Policy}

-- the rulings of a program alone, with maps of its own, on the queries of rows; `draw` is the first number drawn
pub record AreJudgedAgain (v : Verified) (draw : ℕ) (packets : List Seen) (rows : List Row) (contrasts : List Contrast) : Type 0 where
  pub policy : Policy
  pub programs : policy.programs.now ≡ replaced v.hook (no_programs v.code.shapes) (Some v)
  pub held : Metered
  pub drawn : held.held.draw ≡ draw
  pub held' : Metered
  pub again : AreContrasts policy packets held rows contrasts held'

-- The link follows the program in force. The text has the verdicts of the tried one that differ, and there is none
-- exactly if all are equal.
pub record IsComparison (in_force tried : Verified) (draw : ℕ) (config : Config) (packets : List Seen) (json : Bool) (text : List ℕ) (differs : Bool) : Type 0 where
  pub rows : List Row
  pub evaluated : IsEvaluated in_force draw config packets rows
  pub contrasts : List Contrast
  pub again : AreJudgedAgain tried draw packets rows contrasts
  pub changes : List Contrast
  pub are_changes : AreChanges contrasts changes
  pub equal : (changes ≡ []) ↔ AllAgree contrasts
  pub differ : differs ≡ nat_lt 0 (length changes)
  pub text_is : text ≡ changes_text changes (change_sums in_force.hook config.bssid packets (length contrasts) (length changes) json) json
