use Rattle.std.proofs.Common.{ℕ, ◌<◌, ◌+◌, ◌*◌, ◌^◌, sym, arith}
use Rattle.bpf_values.proofs.OneByte.{number_at-zero, number_at-step, one_more, one_more_fits}
use Rattle.bpf_values.proofs.bytes.+read_number.Goals as goal

fits : (t : ℕ) (c : goal.After-read_number-high t) → c.from-low.result + 256 * c.read_number-high.result < 2 ^ 64
fits t c =
    let byte : c.from-low.result < 256 = rw c.from-low.ensures (c.type_inv.bytes c.args.at).fits in
    one_more_fits c.args.count c.from-low.result c.read_number-high.result (omega arith) c.requires.few byte c.read_number-high.ensures.bound

pub overflow_mul-result : goal.overflow_mul-result
overflow_mul-result t c = let h = fits t c in record { fits = omega arith }

pub overflow_add-result : goal.overflow_add-result
overflow_add-result t c = let h = fits t c in record { fits = h }

pub returns-then-count-eq0-clause-is : goal.returns-then-count-eq0-clause-is
returns-then-count-eq0-clause-is t c = sym (number_at-zero c.args.bytes.now c.args.at c.args.count c.if-count-eq0.true)

pub returns-else-count-eq0-clause-is : goal.returns-else-count-eq0-clause-is
returns-else-count-eq0-clause-is t c =
    omega (arith, number_at-step c.args.bytes.now c.args.at c.args.count (omega arith), c.from-low.ensures, c.read_number-high.ensures.is)

pub returns-else-count-eq0-clause-bound : goal.returns-else-count-eq0-clause-bound
returns-else-count-eq0-clause-bound t c =
    let byte : c.from-low.result < 256 = rw c.from-low.ensures (c.type_inv.bytes c.args.at).fits in
    one_more c.args.count c.from-low.result c.read_number-high.result (omega arith) c.requires.few byte c.read_number-high.ensures.bound
