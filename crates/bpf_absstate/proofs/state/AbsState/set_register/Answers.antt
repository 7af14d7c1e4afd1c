use Rattle.std.proofs.Common.{sym, subst}
use Rattle.bpf_absstate.specs.View.{View}
use Rattle.bpf_absstate.specs.WellFormed.{IsView}
use Rattle.bpf_absstate.proofs.Whole.{whole_register}
use Rattle.bpf_absstate.proofs.state.AbsState.set_register.Goals as goal

pub invariant_of-self-2 : goal.invariant_of-self-2
invariant_of-self-2 c =
    let a = c.self.inside in
    let old : View = record { pc = a.pc; registers = a.registers; frames = a.frames.value; least = a.least; rooms = a.rooms.value } in
    record {
      view = subst (λ rs. IsView (record old { registers = rs })) (sym c.in_ok-set.ensures.ok) (whole_register old c.number.result c.args.value c.in_ok-set.ensures.whole c.self.invariant.view);
      count = c.self.invariant.count;
    }
