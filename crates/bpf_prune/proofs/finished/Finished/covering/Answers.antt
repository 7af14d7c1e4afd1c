use Rattle.std.proofs.Common.{◌≡◌, [], length, ap, sym, refl, arith}
use Rattle.std.proofs.lemmas.List.{get_or_past}
use Rattle.bpf_prune.specs.Covering.{newest_covering, kept_at}
use Rattle.bpf_prune.specs.Spending.{comparisons}
use Rattle.bpf_prune.proofs.finished.Finished.covering.Goals as goal

pub returns-clause-is : goal.returns-clause-is
unfolding newest_covering
returns-clause-is c =
    let size : length c.args.self.now ≡ length c.self.inside.slots.items = ap length (sym c.self.view_is) in
    let none : kept_at c.args.self.now c.args.state.now.pc ≡ [] =
    get_or_past c.args.self.now c.args.state.now.pc [] (omega (arith, size, c.len.ensures, c.pc-pc.ensures.is, c.if-pc-len.false)) in
    rw none refl

pub returns-clause-compared : goal.returns-clause-compared
unfolding comparisons
returns-clause-compared c =
    let size : length c.args.self.now ≡ length c.self.inside.slots.items = ap length (sym c.self.view_is) in
    let none : kept_at c.args.self.now c.args.state.now.pc ≡ [] =
    get_or_past c.args.self.now c.args.state.now.pc [] (omega (arith, size, c.len.ensures, c.pc-pc.ensures.is, c.if-pc-len.false)) in
    rw none (omega arith)
