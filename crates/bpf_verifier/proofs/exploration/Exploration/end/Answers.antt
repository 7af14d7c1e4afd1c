use Rattle.std.proofs.Common.{◌+◌, ◌≤◌, arith}
use Rattle.bpf_verifier.specs.Counting.{weight}
use Rattle.bpf_verifier.proofs.Counts.{Counted-kept, Counted-less, weight_more}
use Rattle.bpf_verifier.proofs.Stepping.{ends_step}
use Rattle.bpf_verifier.proofs.exploration.Exploration.end.Goals as goal

pub unwind-requires-clause-room : goal.unwind-requires-clause-room
unwind-requires-clause-room c = rw c.in_ok-finish.ensures.visits c.requires.examined.1.few

pub unwind-requires-clause-traced : goal.unwind-requires-clause-traced
unwind-requires-clause-traced c = (c.requires.examined.0, rw (c.in_ok-finish.ensures.path, c.in_ok-finish.ensures.after) c.requires.examined.1.traced)

pub unwind-requires-clause-counted : goal.unwind-requires-clause-counted
unwind-requires-clause-counted c =
    let at = c.requires.examined.1 in
    let more = weight_more c.args.self.now.path c.args.self.now.after in
    let paid : 1 + weight c.args.self.now.path c.args.self.now.after ≤ c.args.self.now.visits = omega (arith, more, at.paid) in
    rw (c.in_ok-finish.ensures.path, c.in_ok-finish.ensures.after, c.in_ok-finish.ensures.visits)
    (Counted-kept c.args.self.now.path c.args.self.now.after c.args.self.now.finished c.finish.new.self.finished c.args.kept 1 c.args.self.now.visits c.in_ok-finish.ensures.finished
    (Counted-less c.args.self.now.path c.args.self.now.after c.args.self.now.finished c.args.self.now.visits at.counted) paid)

pub unwind-requires-clause-paid : goal.unwind-requires-clause-paid
unwind-requires-clause-paid c =
    let at = c.requires.examined.1 in
    let more = weight_more c.args.self.now.path c.args.self.now.after in
    rw (c.in_ok-finish.ensures.path, c.in_ok-finish.ensures.after, c.in_ok-finish.ensures.visits) (omega (arith, more, at.paid))

pub returns-clause-stepped : goal.returns-clause-stepped
returns-clause-stepped c = λ own found.
    let h = c.in_ok-unwound.ensures in
    ends_step c.args.program.now own c.args.kept c.args.self.now c.finish.new.self _ _ c.in_ok-finish.ensures.path c.in_ok-finish.ensures.after c.in_ok-finish.ensures.finished found
    (record { traced = h.traced; counted = h.counted; paid = h.paid; begun = h.begun; safe = h.safe; walked = h.walked; clear = h.clear })
