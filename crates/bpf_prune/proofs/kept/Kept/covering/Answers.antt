use Rattle.std.proofs.Common.{◌≡◌, ◌+◌, ◌-◌, arith, sym, ap, ◌∙◌, take, true, false, Some}
use Rattle.bpf_absstate.specs.Inclusion.{state_included}
use Rattle.bpf_prune.specs.Spending.{comparisons}
use Rattle.bpf_prune.specs.declared.kept.Entry.{Entry}
use Rattle.bpf_prune.proofs.kept.Kept.covering.Goals as goal
use Rattle.bpf_prune.proofs.Newest.{found, passed, none_left, compared_found, compared_passed, none_compared}

pub returns-then-branch-clause-is : goal.returns-then-branch-clause-is
returns-then-branch-clause-is c =
    let so : state_included c.args.state.now c.index-marked.result.now.state ≡ true = sym c.in_ok-covers.ensures.is ∙ c.if-branch.true in
    rw (← c.self.view_is)
    (ap (λ (e : Entry). Some e.budget) c.marked.view_is ∙
    found _ c.loop-k.k _ _ c.index-marked.result.now c.loop-k-test.true c.loop-k.invariant.within c.index-marked.ensures so c.loop-k.invariant.rest)

pub returns-then-branch-clause-compared : goal.returns-then-branch-clause-compared
returns-then-branch-clause-compared c =
    let so : state_included c.args.state.now c.index-marked.result.now.state ≡ true = sym c.in_ok-covers.ensures.is ∙ c.if-branch.true in
    let one : comparisons (take c.loop-k.k c.self.inside.entries.items) c.args.state.now ≡ 1 =
    compared_found _ c.loop-k.k _ _ c.index-marked.result.now c.loop-k-test.true c.loop-k.invariant.within c.index-marked.ensures so in
    rw (← c.self.view_is) (omega (arith, one, c.in_ok-covers.ensures.compared, c.loop-k.invariant.compared))

pub loop-k-preserved : goal.loop-k-preserved
loop-k-preserved c =
    let differs : state_included c.args.state.now c.index-marked.result.now.state ≡ false = sym c.in_ok-covers.ensures.is ∙ c.if-branch.false in
    let more : comparisons (take c.loop-k.k c.self.inside.entries.items) c.args.state.now ≡ comparisons (take (c.loop-k.k - 1) c.self.inside.entries.items) c.args.state.now + 1 =
    compared_passed _ c.loop-k.k _ _ c.index-marked.result.now c.loop-k-test.true c.loop-k.invariant.within c.index-marked.ensures differs in
    record {
      within = omega (arith, c.loop-k.invariant.within);
      rest = passed _ c.loop-k.k _ _ c.index-marked.result.now c.loop-k-test.true c.loop-k.invariant.within c.index-marked.ensures differs c.loop-k.invariant.rest;
      most = c.in_ok-covers.ensures.most ∙ c.loop-k.invariant.most;
      examined = c.in_ok-covers.ensures.examined ∙ c.loop-k.invariant.examined;
      remade = c.in_ok-covers.ensures.remade ∙ c.loop-k.invariant.remade;
      compared = omega (arith, more, c.in_ok-covers.ensures.compared, c.loop-k.invariant.compared);
      few = omega (arith, c.loop-k-test.true, c.in_ok-covers.ensures.few, c.loop-k.invariant.few);
    }

pub returns-clause-is : goal.returns-clause-is
returns-clause-is c = rw (← c.self.view_is) (none_left _ _ _ c.loop-k-test.false c.loop-k.invariant.rest)

pub returns-clause-compared : goal.returns-clause-compared
returns-clause-compared c =
    let none = none_compared c.self.inside.entries.items c.loop-k.k c.args.state.now c.loop-k-test.false in
    rw (← c.self.view_is) (omega (arith, none, c.loop-k.invariant.compared))
