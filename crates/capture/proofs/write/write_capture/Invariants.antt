use Rattle.std.proofs.Common.{◌≡◌, ◌++◌, drop, map}
use Rattle.capture.specs.Writing.{blocks_of, file_of, written_of}
use Rattle.capture.proofs.write.write_capture.Given as goal

-- what was appended, and what is left to append
abbrev pub invariant-loop-packet : goal.invariant-loop-packet
invariant-loop-packet l =
    l.file.items ++ blocks_of (map written_of (drop l.packet-index l.packets)) ≡ file_of (map written_of l.packets)
