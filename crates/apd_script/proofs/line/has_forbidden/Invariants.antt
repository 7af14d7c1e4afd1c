use Rattle.std.proofs.Common.{◌≡◌, take}
use Rattle.std.specs.List.{list_any}
use Rattle.apd_script.specs.Words.{is_forbidden}
use Rattle.apd_script.proofs.line.has_forbidden.Given as goal

abbrev pub invariant-loop-byte : goal.invariant-loop-byte
invariant-loop-byte l = l.found ≡ list_any is_forbidden (take l.byte-index l.line)
