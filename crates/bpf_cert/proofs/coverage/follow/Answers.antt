use Rattle.bpf_cert.specs.Covered.{IsIncluded}
use Rattle.bpf_cert.proofs.Told.{second_in, second_out, told_true, told_false}
use Rattle.bpf_cert.proofs.coverage.follow.Goals as goal

pub returns-then-not-told-clause-is : goal.returns-then-not-told-clause-is
returns-then-not-told-clause-is g c =
    let t = rw c.in-Two.is at c.requires.target in
    let code = c.args.program.now in
    let es = c.args.claims.now in
    let n = c.args.left in
    let out = told_false c.in_ok-told-in-Two.told (IsIncluded es c.in-Two.target n) c.if-not-told.true c.in_ok-told-in-Two.ensures.is in
    rw c.in-Two.is (second_out code es n c.in-Two.next c.in-Two.target t out)

pub returns-in_ok-step-in-Two-clause-is : goal.returns-in_ok-step-in-Two-clause-is
returns-in_ok-step-in-Two-clause-is g c =
    let t = rw c.in-Two.is at c.requires.target in
    let code = c.args.program.now in
    let es = c.args.claims.now in
    let n = c.args.left in
    let in_one = told_true c.in_ok-told-in-Two.told (IsIncluded es c.in-Two.target n) c.if-not-told.false c.in_ok-told-in-Two.ensures.is in
    rw c.in-Two.is (second_in code es n c.in-Two.next c.in-Two.target c.in_ok-step-in-Two.step t in_one c.in_ok-step-in-Two.ensures.is)
