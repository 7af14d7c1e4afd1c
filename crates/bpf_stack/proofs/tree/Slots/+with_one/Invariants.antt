use Rattle.bpf_stack.proofs.tree.Slots.+with_one.Given as goal

abbrev pub decreases-with_one : goal.decreases-with_one
decreases-with_one l = l.depth
