use Rattle.std.proofs.Common.{rules, ◌≡◌, true}
use Rattle.bpf_absstate.specs.declared.state.Difference.{Difference}
use Rattle.bpf_absstate.specs.declared.state.Difference.TheVariants as at
use Rattle.bpf_absstate.specs.Difference.{lies_outside}
use Rattle.bpf_absstate.proofs.Differ.{state_excluded}
use Rattle.bpf_absstate.proofs.state.AbsState.difference.Goals as goal

pub returns-then-stands_apart-clause-outside : goal.returns-then-stands_apart-clause-outside
returns-then-stands_apart-clause-outside c =
    let outside : lies_outside c.args.self.now c.args.other.now at.Apart ≡ true = search rules in
    state_excluded c.args.self.now c.args.other.now at.Apart outside

pub returns-in-Some-clause-outside : goal.returns-in-Some-clause-outside
returns-in-Some-clause-outside c =
    let outside : lies_outside c.args.self.now c.args.other.now (at.Register c.in-Some.number) ≡ true = search rules in
    state_excluded c.args.self.now c.args.other.now (at.Register c.in-Some.number) outside

pub returns-in-Some-first_outside-clause-outside : goal.returns-in-Some-first_outside-clause-outside
returns-in-Some-first_outside-clause-outside c =
    let outside : lies_outside c.args.self.now c.args.other.now (at.Frame c.in-Some-first_outside.place) ≡ true = search rules in
    state_excluded c.args.self.now c.args.other.now (at.Frame c.in-Some-first_outside.place) outside
