use Rattle.bpf_cert.specs.Certified.{StandsWell}
use Rattle.bpf_cert.proofs.Entries.{passes, fails}
use Rattle.bpf_cert.proofs.Told.{told_true, told_false}
use Rattle.bpf_cert.proofs.checker.all_stand.Goals as goal

pub returns-then-not-told : goal.returns-then-not-told
returns-then-not-told c =
    let P = StandsWell c.args.program.now in
    let out = told_false c.in_ok-told.told (P c.leaf-item.result) c.if-not-told.true c.in_ok-told.ensures.is in
    record { is = fails P c.args.entries.now c.loop-leaf.leaf-index c.leaf-item.result c.loop-leaf-test.true c.leaf-item.is out }

pub loop-leaf-preserved : goal.loop-leaf-preserved
loop-leaf-preserved c =
    let P = StandsWell c.args.program.now in
    let one = told_true c.in_ok-told.told (P c.leaf-item.result) c.if-not-told.false c.in_ok-told.ensures.is in
    passes P c.args.entries.now c.loop-leaf.leaf-index c.leaf-item.result c.loop-leaf-test.true c.leaf-item.is one c.loop-leaf.invariant
