use Rattle.std.proofs.Common.{◌≡◌, ◌++◌, take, string_bytes}
use Rattle.apd_trials.specs.Texts.{rows_text}
use Rattle.apd_trials.proofs.texts.append_rows.Given as goal

abbrev pub invariant-loop-row : goal.invariant-loop-row
invariant-loop-row l = string_bytes l.text ≡ string_bytes l.initial.text ++ rows_text l.path (take l.row-index l.rows)
