use Rattle.std.proofs.Common.{◌≡◌, ◌≤◌, ◌+◌, List, get_or, take, arith, ap, sym, subst, ◌∙◌, IfSome}
use Rattle.std.proofs.lemmas.List.{length-take}
use Rattle.bpf_verifier.specs.declared.frame.Frame.{Frame}
use Rattle.bpf_verifier.specs.Pushed.{MoreAt, IsPushedOut}
use Rattle.bpf_verifier.proofs.Pushing.{count_same, count_more, pushed_none, pushed_more, is_pushed}
use Rattle.bpf_verifier.proofs.fold.needed.Goals as goal
use Rattle.bpf_verifier.proofs.fold.needed.Goals.{in-Some+in_ok-is_early+then-branch, in-Some+in_ok-is_early+else-branch, in_default}

pub loop-place-preserved : goal.loop-place-preserved
loop-place-preserved c =
    let fs : List Frame = c.args.frames.now in
    let f : Frame = c.index-frames-place.result in
    let h = c.loop-place.invariant in
    let lt = c.loop-place-test.true in
    let same : f.state ≡ (get_or fs c.loop-place.place f).state = ap (λ (x : Frame). x.state) c.index-frames-place.is in
    elim c.match-frames-place.branch [
      | in-Some+in_ok-is_early+then-branch w ↦ rw (w.counts-is, w.needed-is) (record {
        from = omega (arith, h.from);
        upto = omega (arith, lt);
        counts = count_more c.loop-place.counts.items w.is_early.new.counts.items fs c.forked-start.result c.loop-place.place f w.in-Some.state h.from lt c.index-frames-place.is (same ∙ w.in-Some.is)
            (subst (λ n. MoreAt n c.loop-place.counts.items w.is_early.new.counts.items) w.pc.ensures.is w.in_ok-is_early.ensures.more) h.counts;
        pushed = pushed_none (take (c.loop-place.place + 1) fs) (c.loop-place.place + 1) (omega (arith, length-take (c.loop-place.place + 1) fs));
      })
      | in-Some+in_ok-is_early+else-branch w ↦ rw (w.counts-is, w.needed-is) (
          let late = w.in_ok-is_early.ensures.late w.if-branch.false in
          let out : IsPushedOut (take c.loop-place.place fs) w.in-Some.state = is_pushed c.loop-place.counts.items fs c.forked-start.result c.loop-place.place w.in-Some.state h.from h.upto c.forked-start.ensures.straight h.counts (subst (λ n. 64 ≤ get_or c.loop-place.counts.items n 0) w.pc.ensures.is late.0) in
          record {
            from = omega (arith, h.from);
            upto = omega (arith, lt);
            counts = count_same c.loop-place.counts.items w.is_early.new.counts.items fs c.forked-start.result c.loop-place.place h.from lt late.1 h.counts;
            pushed = pushed_more fs c.loop-place.needed c.loop-place.place f lt c.index-frames-place.is h.pushed (subst (λ o. IfSome o (IsPushedOut (take c.loop-place.place fs))) (sym (same ∙ w.in-Some.is)) out);
          })
      | in_default w ↦ rw (w.counts-is, w.needed-is) (record {
        from = omega (arith, h.from);
        upto = omega (arith, lt);
        counts = count_same c.loop-place.counts.items c.loop-place.counts.items fs c.forked-start.result c.loop-place.place h.from lt (λ k. omega arith) h.counts;
        pushed = pushed_more fs c.loop-place.needed c.loop-place.place f lt c.index-frames-place.is h.pushed (subst (λ o. IfSome o (IsPushedOut (take c.loop-place.place fs))) (sym (same ∙ w.in_default.is)) tt);
      })
    ]
