-- The text so far and the rest are the script.
use Rattle.std.proofs.Common.{◌≡◌, ◌++◌}
use Rattle.std.specs.String.{string_bytes}
use Rattle.capture.specs.Walks.{packets_in}
use Rattle.apd_policies.specs.Script.{script_of}
use Rattle.apd_policies.proofs.frames.script.script_text.Given as goal

abbrev pub invariant-loop-text : goal.invariant-loop-text
invariant-loop-text l = string_bytes l.text ++ l.rest.bytes ≡ script_of l.fn.manner.ticks l.fn.manner.bssid (packets_in l.fn.recording.bytes.now)

abbrev pub decreases-loop-text : goal.decreases-loop-text
decreases-loop-text l = l.rest.packets
