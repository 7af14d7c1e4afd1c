use Rattle.std.proofs.Common.{◌^◌, sym}
use Rattle.bpf_stack.proofs.Unsets.{all_admit}
use Rattle.bpf_stack.proofs.tree.Slots.+first_set.Goals as goal

pub returns-clause-none : goal.returns-clause-none
returns-clause-none t c = rw c.in-Unset.is (sym (all_admit c.args.rooms.now c.args.others.now (2 ^ c.in-Unset.field-0)))
