use Rattle.std.proofs.Common.{rules, ◌≤◌, ◌+◌, refl, arith}
use Rattle.bpf_verifier.proofs.Counts.{after_le}
use Rattle.bpf_verifier.proofs.Stepping.{goes_step, one_opens}
use Rattle.bpf_verifier.proofs.exploration.Exploration.follow.Goals as goal

pub overflow_add-self : goal.overflow_add-self
overflow_add-self c =
    let k = after_le c.args.self.now.path (c.args.self.now.after + 1) in
    let le : c.args.self.now.after + 1 ≤ c.args.self.now.visits = omega (arith, c.requires.paid, k) in
    search (rules, le)

pub returns-then-is_none-clause-stepped : goal.returns-then-is_none-clause-stepped
returns-then-is_none-clause-stepped c = λ code own at found. goes_step code own c.args.next c.args.kept c.args.self.now _ refl refl refl refl at found

pub returns-clause-stepped : goal.returns-clause-stepped
returns-clause-stepped c = λ code own at found.
    let h = c.in_ok-push.ensures in
    one_opens code own c.args.next c.args.kept c.args.self.now _ h.path h.after h.finished h.visits at found
