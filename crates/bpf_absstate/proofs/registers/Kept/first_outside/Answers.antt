use Rattle.std.proofs.Common.{sym, arith}
use Rattle.bpf_absstate.proofs.Marked.{kept_goes_on, kept_ends, kept_long}
use Rattle.bpf_absstate.proofs.registers.Kept.first_outside.Goals as goal

pub returns-then-not-lies_in-clause-some : goal.returns-then-not-lies_in-clause-some
returns-then-not-lies_in-clause-some c =
    let long = kept_long c.self.inside.marks.bits c.self.inside.values c.args.self.now c.self.view_is c.self.invariant in
    record { within = omega (arith, long, c.loop-k-test.true); outside = sym c.if-not-lies_in.ensures.is }

pub loop-k-preserved : goal.loop-k-preserved
loop-k-preserved c =
    let long = kept_long c.self.inside.marks.bits c.self.inside.values c.args.self.now c.self.view_is c.self.invariant in
    let same = kept_long c.other.inside.marks.bits c.other.inside.values c.args.other.now c.other.view_is c.other.invariant in
    kept_goes_on c.args.rooms.now c.args.others.now c.args.self.now c.args.other.now c.loop-k.k long same c.loop-k-test.true (sym c.if-not-lies_in.ensures.is) c.loop-k.invariant

pub returns-clause-none : goal.returns-clause-none
returns-clause-none c =
    let long = kept_long c.self.inside.marks.bits c.self.inside.values c.args.self.now c.self.view_is c.self.invariant in
    let same = kept_long c.other.inside.marks.bits c.other.inside.values c.args.other.now c.other.view_is c.other.invariant in
    kept_ends c.args.rooms.now c.args.others.now c.args.self.now c.args.other.now c.loop-k.k long same c.loop-k-test.false c.loop-k.invariant
