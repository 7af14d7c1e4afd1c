use Rattle.std.proofs.Common.{◌≡◌, ◌++◌, drop}
use Rattle.std.specs.List.{flat_map}
use Rattle.capture.specs.Writing.{blocks_of}
use Rattle.apd_driver.specs.Capturing.{out_packets}
use Rattle.apd_driver.proofs.captures.packets.append_outs.Given as goal

-- what was appended, and what is left to append
abbrev pub invariant-loop-out : goal.invariant-loop-out
invariant-loop-out l =
    l.blocks.items ++ blocks_of (flat_map (out_packets l.time l.line) (drop l.out-index l.outs)) ≡ l.initial.blocks.items ++ blocks_of (flat_map (out_packets l.time l.line) l.outs)
