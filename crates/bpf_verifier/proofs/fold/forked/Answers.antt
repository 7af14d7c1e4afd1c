use Rattle.std.proofs.Common.{◌+◌, arith, ap, sym, ◌∙◌}
use Rattle.std.specs.Prelude.{is_some}
use Rattle.bpf_verifier.specs.declared.frame.Frame.{Frame}
use Rattle.bpf_verifier.proofs.Pushing.{straight_more, straight_none, straight_all, none_of}
use Rattle.bpf_verifier.proofs.fold.forked.Goals as goal
use Rattle.bpf_verifier.proofs.fold.forked.Goals.{then-is_some, else-is_some}

pub loop-place-preserved : goal.loop-place-preserved
loop-place-preserved c =
    elim c.if-is_some.branch [
      | then-is_some w ↦ rw w.end-is (record {
        within = omega arith;
        upto = omega (arith, c.loop-place-test.true);
        straight = straight_none c.args.frames.now (c.loop-place.place + 1) (omega (arith, c.loop-place-test.true));
      })
      | else-is_some w ↦ rw w.end-is (record {
        within = omega (arith, c.loop-place.invariant.within);
        upto = omega (arith, c.loop-place-test.true);
        straight = straight_more c.args.frames.now c.loop-place.end c.loop-place.place c.index-frames-place.result c.loop-place.invariant.within c.loop-place-test.true c.index-frames-place.is
            (none_of c.index-frames-place.result.pending (ap (λ (f : Frame). is_some f.pending) c.index-frames-place.is ∙ sym c.is_some.ensures ∙ w.if-is_some.false)) c.loop-place.invariant.straight;
      })
    ]

pub returns-clause-straight : goal.returns-clause-straight
returns-clause-straight c = straight_all c.args.frames.now c.loop-place.end c.loop-place.place (omega (arith, c.loop-place-test.false)) c.loop-place.invariant.straight
