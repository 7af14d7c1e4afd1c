use Rattle.std.proofs.Common.{◌≤◌, sym, ap, arith}
use Rattle.bpf_absnum.proofs.Rows.{masked_at_most}
use Rattle.bpf_absnum.proofs.number.AbsNum.shift_count.Goals as goal

pub overflow_cast-result : goal.overflow_cast-result
overflow_cast-result c =
    let small : c.masked-count.result.range.low ≤ 63 = masked_at_most c.args.wide c.args.self c.masked-count.result c.masked-count.ensures (sym c.if-is_single.ensures) in
    omega (arith, ap (λ n. n.range.low) c.count.view_is, c.low.ensures.value, small)

pub returns-then-is_single-clause-small : goal.returns-then-is_single-clause-small
returns-then-is_single-clause-small c =
    let small : c.masked-count.result.range.low ≤ 63 = masked_at_most c.args.wide c.args.self c.masked-count.result c.masked-count.ensures (sym c.if-is_single.ensures) in
    omega (arith, ap (λ n. n.range.low) c.count.view_is, c.low.ensures.value, small)
