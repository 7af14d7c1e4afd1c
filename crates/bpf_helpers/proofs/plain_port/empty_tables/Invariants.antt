use Rattle.std.proofs.Common.{◌≡◌, map, take}
use Rattle.bpf_helpers.specs.Plain.{zeros}
use Rattle.bpf_helpers.proofs.plain_port.empty_tables.Given as goal

abbrev pub invariant-loop-shape : goal.invariant-loop-shape
invariant-loop-shape l = l.tables.items ≡ map zeros (take l.shape-index l.shapes)
