use Rattle.std.proofs.Common.{ap, ◌∙◌}
use Rattle.assoc.specs.Classes.{class_of}
use Rattle.assoc.specs.Standings.{standing}
use Rattle.ap_model.specs.Steps.{foreign}
use Rattle.ap_core.proofs.Handling.{silently_told, settled}
use Rattle.ap_core.proofs.FrameLaws.{told_ours}
use Rattle.ap_core.proofs.receive.on_frame.Goals as goal

pub returns-then-not-is_ours-clause-step : goal.returns-then-not-is_ours-clause-step
returns-then-not-is_ours-clause-step g c =
    silently_told g.J.Judge.gives _ _ _
    (foreign c.args.frame c.requires.grammar c.requires.bytes
    (λ o. let t = (c.is_ours.ensures c.args.state.now.link.shard).1 o in let f = c.if-not-is_ours.true in cc)
    (settled _ _ _ c.in_ok-outs.ensures))

pub returns-clause-step : goal.returns-clause-step
returns-clause-step g c =
    told_ours g.J.Judge.gives _ _ _ c.args.frame _ _ _ _ _ c.requires.grammar c.requires.bytes ((c.is_ours.ensures c.args.state.now.link.shard).0 c.if-not-is_ours.false)
    c.in_ok-outcome.ensures.step

pub check-requires : goal.check-requires
check-requires g c =
    record {
      came = record {
        spelled = c.in-Some.ensures.value ∙ c.requires.bytes;
        class = c.class_of-class.ensures ∙ ap class_of c.subtype.ensures;
        standing = c.standing-standing.ensures ∙ ap (standing c.args.state.now.link) c.sender.ensures;
      };
    }
