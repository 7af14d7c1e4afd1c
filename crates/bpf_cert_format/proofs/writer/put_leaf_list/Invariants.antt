use Rattle.std.proofs.Common.{◌≡◌, ◌++◌, take}
use Rattle.std.specs.List.{flat_map}
use Rattle.bpf_cert_format.specs.Spelling.{entry}
use Rattle.bpf_cert_format.proofs.writer.put_leaf_list.Given as goal

abbrev pub invariant-loop-leaf : goal.invariant-loop-leaf
invariant-loop-leaf l = l.out.items ≡ l.fn.out.items ++ flat_map entry (take l.leaf-index l.leaves)
