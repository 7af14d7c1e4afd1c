use Rattle.std.proofs.Common.{map, ap, ◌∙◌}
use Rattle.std.proofs.Math.Seq.{map-set_same}
use Rattle.bpf_helpers.specs.Plain.{Plain, shape_of}
use Rattle.bpf_helpers.proofs.Shaped.{keeps_shape}
use Rattle.bpf_helpers.proofs.plain_port.PlainPortPort.access.Goals as goal

pub returns-clause-shapes : goal.returns-clause-shapes
returns-clause-shapes c =
    map-set_same shape_of c.self.inside.tables.items c.args.map c.access.new.self c.index_mut.result.now
    (keeps_shape c.access.new.self c.index_mut.result.now _ c.args.word c.args.op c.access.ensures.after c.index_mut.ensures.value)
    ∙ ap (λ p. map shape_of (Plain.tables p)) c.self.view_is
