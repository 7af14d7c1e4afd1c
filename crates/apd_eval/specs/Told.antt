-- Contrasts of which changes are told as they come.
use Rattle.std.specs.Prelude.{◌≡◌, ℕ, ◌+◌, Bool, List, [], ◌∷◌, ◌++◌, length, string_bytes}
use Rattle.bpf_machine.specs.Verified.{Verified}
use Rattle.capture.specs.Packets.{Seen}
use Rattle.ap_model.specs.Readings.{Config}
use Rattle.apd_eval.specs.Again.{ask_of, contrast_of, read_at}
use Rattle.apd_eval.specs.Changes.{AreChanges, change_front, change_in}
use Rattle.apd_eval.specs.Rulings.{IsRuling}
use Rattle.apd_eval.specs.Table.{lines_of}
use Rattle.apd_eval.specs.Taken.{AreTaken}
use Rattle.apd_eval.specs.declared.again.Contrast.{Contrast}
use Rattle.apd_eval.specs.declared.changes.Changes.{Changes}
use Rattle.apd_eval.specs.declared.comparison.Contrasts.{Contrasts}
use Rattle.apd_eval.specs.declared.row.Row.{Row}
use Rattle.apd_eval.specs.declared.ruling.Ruling.{Ruling}
use Rattle.apd_eval.specs.declared.tried.Tried.{Tried}

-- nothing is told
pub record IsUntold (json : Bool) (s : Changes) : Type 0 where
  pub form : s.json ≡ json
  pub text : string_bytes s.text ≡ change_front json
  pub judged : s.judged ≡ 0
  pub changed : s.changed ≡ 0

-- one more contrast: it is counted, and if it is a change, that is counted, and its line is appended
pub record Tells (s : Changes) (c : Contrast) (t : Changes) : Type 0 where
  pub changes : List Contrast
  pub are : AreChanges (c ∷ []) changes
  pub form : t.json ≡ s.json
  pub text : string_bytes t.text ≡ string_bytes s.text ++ lines_of (change_in s.json) changes
  pub judged : t.judged ≡ s.judged + 1
  pub changed : t.changed ≡ s.changed + length changes

-- the query of one more row is judged, too, by other programs, and told
pub record Contrasted (s : Contrasts) (row : Row) (frame : List ℕ) (t : Contrasts) : Type 0 where
  pub ruling : Ruling
  pub policy : t.policy ≡ s.policy
  pub is : IsRuling (read_at s.policy row) s.policy.programs.now s.meter (ask_of row frame) ruling t.meter
  pub told : Tells s.changes (contrast_of row ruling) t.changes

-- The queries of a capture, judged by the program in force, are judged by another, too, with what it holds at first, and
-- told.
pub record AreContrasted (in_force : Verified) (draw : ℕ) (config : Config) (packets : List Seen) (tested : Tried) (untold told : Changes) : Type 0 where
  pub before : Contrasts
  pub after : Contrasts
  pub programs : before.policy.programs.now ≡ tested.programs
  pub drawn : before.meter.held.draw ≡ tested.state.draw
  pub begun : before.changes ≡ untold
  pub taken : AreTaken Contrasted in_force draw config packets before after
  pub is : told ≡ after.changes
