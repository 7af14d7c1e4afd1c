use Rattle.std.proofs.Common.{◌∙◌, ap, replicate}
use Rattle.bpf_absval.specs.Marked.{seen}
use Rattle.bpf_absval.specs.Unlabelled.{slot_bare}
use Rattle.bpf_absval.specs.declared.slot.AbsSlot.TheVariants as cell
use Rattle.bpf_absval.proofs.Marking.{seen_none}
use Rattle.bpf_stack.proofs.stack.Stack.unset.Goals as goal

pub returns : goal.returns
returns c = ap (λ m. seen slot_bare m 0 (replicate 64 cell.Unset)) c.none.ensures ∙ seen_none slot_bare 0 (replicate 64 cell.Unset)
