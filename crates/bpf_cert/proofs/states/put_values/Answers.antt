use Rattle.std.proofs.Common.{◌<◌, length, arith}
use Rattle.bpf_cert.proofs.Filling.{value_more}
use Rattle.bpf_cert.proofs.states.put_values.Goals as goal

pub loop-number-preserved : goal.loop-number-preserved
loop-number-preserved c =
    let i = c.loop-number.number in
    let lt : i < length c.args.values.now = let all = c.requires.all in omega (arith, all, c.loop-number-test.true) in
    let lr : i < length c.args.state.now.registers = let all = c.requires.eleven in omega (arith, all, c.loop-number-test.true) in
    value_more c.args.state.now c.loop-number.state c.put_value.new.state c.args.values.now i c.new.result c.index-values-number.result lt lr c.loop-number.invariant c.new.ensures c.index-values-number.is c.in_ok-put_value.ensures.is
