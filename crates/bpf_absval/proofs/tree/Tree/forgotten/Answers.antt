use Rattle.std.proofs.Common.{◌≡◌, rules, sym, ◌∙◌, None}
use Rattle.bpf_absval.specs.Leaves.{rooms_of}
use Rattle.bpf_absval.proofs.Ordered.{without_unknown}
use Rattle.bpf_absval.proofs.tree.Tree.forgotten.Goals as goal

pub returns-then-is_none : goal.returns-then-is_none
returns-then-is_none c =
    let none : c.find.result ≡ None = search rules in
    c.in_ok-tree.ensures.cases ∙ sym (without_unknown c.args.label (rooms_of c.args.self.now) (sym c.find.ensures ∙ none))
