use Rattle.std.proofs.Common.{◌≡◌, true}
use Rattle.bpf_stack.proofs.Outside.{told_by_none}
use Rattle.bpf_absstate.specs.Difference.{lies_outside}
use Rattle.bpf_absstate.proofs.Differ.{state_excluded}
use Rattle.bpf_absstate.proofs.state.AbsState.is_included.Goals as goal

pub returns : goal.returns
returns c =
    record {
      is =
          told_by_none (λ d. lies_outside c.args.self.now c.args.other.now d ≡ true) c.difference.result _ c.is_none.result c.difference.ensures.none c.difference.ensures.some
          (λ d h. state_excluded c.args.self.now c.args.other.now d h) c.is_none.ensures;
    }
