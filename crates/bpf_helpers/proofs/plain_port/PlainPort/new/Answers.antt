use Rattle.std.proofs.Common.{map, ap, ◌∙◌}
use Rattle.bpf_helpers.specs.Plain.{shape_of}
use Rattle.bpf_helpers.proofs.Shaped.{shapes_of_zeros}
use Rattle.bpf_helpers.proofs.plain_port.PlainPort.new.Goals as goal

pub returns-clause-shapes : goal.returns-clause-shapes
returns-clause-shapes c = ap (map shape_of) c.in_ok-tables.ensures.is ∙ shapes_of_zeros c.args.shapes.now
