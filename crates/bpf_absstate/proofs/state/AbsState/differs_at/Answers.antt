use Rattle.std.proofs.Common.{rules, ◌≡◌, true, not, sym, ◌∙◌}
use Rattle.bpf_absstate.specs.declared.state.Difference.TheVariants as at
use Rattle.bpf_absstate.specs.Difference.{lies_outside}
use Rattle.bpf_absstate.proofs.Differ.{state_excluded}
use Rattle.bpf_absstate.proofs.state.AbsState.differs_at.Goals as goal

pub returns-in-Apart-clause-outside : goal.returns-in-Apart-clause-outside
returns-in-Apart-clause-outside c = λ h. state_excluded c.args.self.now c.args.other.now at.Apart (sym c.stands_apart.ensures.is ∙ h)

pub returns-then-number-lt11-clause-outside : goal.returns-then-number-lt11-clause-outside
returns-then-number-lt11-clause-outside c =
    let exact : not c.lies_in.result ≡ lies_outside c.args.self.now c.args.other.now (at.Register c.in-Register.number) = search rules in
    λ h. state_excluded c.args.self.now c.args.other.now (at.Register c.in-Register.number) (sym exact ∙ h)

pub returns-else-k-other-clause-outside : goal.returns-else-k-other-clause-outside
returns-else-k-other-clause-outside c =
    let exact : c.lies_outside.result ≡ lies_outside c.args.self.now c.args.other.now (at.Frame c.in-Frame.place) = search rules in
    λ h. state_excluded c.args.self.now c.args.other.now (at.Frame c.in-Frame.place) (sym exact ∙ h)
