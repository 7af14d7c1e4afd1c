use Rattle.std.proofs.Common.{◌<◌, List, length, ap, ◌∙◌, arith}
use Rattle.std.proofs.Math.Seq.{map-set_same}
use Rattle.ap_queues.specs.declared.queue.PassMaker.{PassMaker}
use Rattle.ap_queues.specs.Passes.{number_of}
use Rattle.ap_queues.proofs.Makers.{made_set}
use Rattle.ap_queues.proofs.Steps.{put_nothing}
use Rattle.ap_rows.proofs.Standing.{found}
use Rattle.ap_queues.proofs.lines.lines.EventLines.meet_alone.Goals as goal

pub returns-clause-numbers : goal.returns-clause-numbers
returns-clause-numbers c =
    map-set_same number_of c.args.operator.now.passes.items c.args.number c.meet_alone.new.operator c.index_mut.result.now (c.meet_alone.ensures.number ∙ ap number_of c.index_mut.ensures.value)

pub returns-clause-put : goal.returns-clause-put
returns-clause-put c =
    put_nothing c.args.operator.now.passes.items c.args.number c.index_mut.result.now c.meet_alone.new.operator c.index_mut.ensures.value c.meet_alone.ensures.put

pub returns-clause-made : goal.returns-clause-made
returns-clause-made c =
    let makers : List PassMaker = c.args.left.now.makers.items in
    let low : c.args.number < length makers = omega (arith, c.requires.there, c.requires.left.makers.as_many) in
    let was = c.requires.alone.each c.args.number c.index_mut-maker.result.now (found makers c.args.number c.index_mut-maker.result.now low c.index_mut-maker.ensures.value) in
    record { each = made_set 1 makers c.args.number c.meet_alone.new.maker low (c.meet_alone.ensures.made ∙ was) c.requires.alone.each }
