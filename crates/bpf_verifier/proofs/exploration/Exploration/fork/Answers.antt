use Rattle.bpf_verifier.proofs.Stepping.{two_open}
use Rattle.bpf_verifier.proofs.exploration.Exploration.fork.Goals as goal

pub returns-clause-stepped : goal.returns-clause-stepped
returns-clause-stepped c = λ code own at found.
    let h = c.in_ok-push.ensures in
    two_open code own c.args.first c.args.second c.args.kept c.args.self.now _ h.path h.after h.finished h.visits at found
