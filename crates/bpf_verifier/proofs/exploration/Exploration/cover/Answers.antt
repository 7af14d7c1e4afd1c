use Rattle.std.proofs.Common.{◌+◌, arith}
use Rattle.bpf_verifier.proofs.Counts.{Counted-less, weight_more}
use Rattle.bpf_verifier.proofs.Covered.{covered_paid}
use Rattle.bpf_verifier.proofs.Stepping.{covers_step}
use Rattle.bpf_verifier.proofs.exploration.Exploration.cover.Goals as goal

pub unwind-requires-clause-room : goal.unwind-requires-clause-room
unwind-requires-clause-room c = c.requires.covers.1.few

pub unwind-requires-clause-traced : goal.unwind-requires-clause-traced
unwind-requires-clause-traced c = (c.requires.covers.0, c.requires.covers.1.traced)

pub unwind-requires-clause-counted : goal.unwind-requires-clause-counted
unwind-requires-clause-counted c = Counted-less c.args.self.now.path c.args.self.now.after c.args.self.now.finished c.args.self.now.visits c.requires.covers.1.counted

pub unwind-requires-clause-paid : goal.unwind-requires-clause-paid
unwind-requires-clause-paid c =
    let own = c.requires.covers.0 in
    let paid = covered_paid c.args.self.now.path (c.args.self.now.after + 1) c.args.self.now.finished own c.args.budget c.args.self.now.visits c.requires.covers.1.counted c.requires.covers.2 in
    let more = weight_more c.args.self.now.path c.args.self.now.after in
    omega (arith, paid, more)

pub returns-clause-stepped : goal.returns-clause-stepped
returns-clause-stepped c = λ own covers.
    let h = c.in_ok-unwound.ensures in
    covers_step c.args.program.now own c.args.budget c.args.self.now _ _ covers
    (record { traced = h.traced; counted = h.counted; paid = h.paid; begun = h.begun; safe = h.safe; walked = h.walked; clear = h.clear })
