use Rattle.std.proofs.Common.{rules, ◌≡◌, ◌<◌, ◌+◌, ◌*◌, ◌^◌, ◌∙◌, sym, arith, ℕ, Ok, Err, ap, min}
use Rattle.bpf_values.proofs.OneByte.{set_bytes-zero, joined_is, one_more, one_more_fits}
use Rattle.bpf_values.proofs.bytes.+read_set_bytes.Goals as goal

pub returns-then-count-eq0-clause-is : goal.returns-then-count-eq0-clause-is
returns-then-count-eq0-clause-is t c = sym (set_bytes-zero c.args.frame.now c.args.at c.args.count c.if-count-eq0.true)

fits : (t : ℕ) (c : goal.In-Ok-high t) → c.in-Ok.byte + 256 * c.in-Ok-high.rest < 2 ^ 64
fits t c =
    one_more_fits c.args.count c.in-Ok.byte c.in-Ok-high.rest (omega arith) c.requires.few c.in-Ok.ensures.bound c.in-Ok-high.ensures.bound

pub overflow_mul-result : goal.overflow_mul-result
overflow_mul-result t c = let h = fits t c in record { fits = omega arith }

pub overflow_add-result : goal.overflow_add-result
overflow_add-result t c = let h = fits t c in record { fits = h }

pub returns-in-Ok-high-clause-bound : goal.returns-in-Ok-high-clause-bound
returns-in-Ok-high-clause-bound t c =
    one_more c.args.count c.in-Ok.byte c.in-Ok-high.rest (omega arith) c.requires.few c.in-Ok.ensures.bound c.in-Ok-high.ensures.bound

pub returns-in-Ok-high-clause-is : goal.returns-in-Ok-high-clause-is
returns-in-Ok-high-clause-is t c =
    joined_is c.args.frame.now c.args.at c.args.count (omega arith) (Ok c.in-Ok.byte) (Ok c.in-Ok-high.rest) c.in-Ok.ensures.is c.in-Ok-high.ensures.is

pub returns-in-Err-high-clause-is : goal.returns-in-Err-high-clause-is
returns-in-Err-high-clause-is t c =
    joined_is c.args.frame.now c.args.at c.args.count (omega arith) (Ok c.in-Ok.byte) _ c.in-Ok.ensures.is c.in-Err-high.ensures.is

pub returns-in-Ok-high-2-clause-is : goal.returns-in-Ok-high-2-clause-is
returns-in-Ok-high-2-clause-is t c =
    joined_is c.args.frame.now c.args.at c.args.count (omega arith) (Err c.in-Err.cause) _ c.in-Err.ensures.is c.in-Ok-high-2.ensures.is

pub returns-in-Err-high-2-clause-is : goal.returns-in-Err-high-2-clause-is
returns-in-Err-high-2-clause-is t c =
    let e : c.min.result ≡ min c.in-Err.cause c.in-Err-high-2.other = search rules in
    ap Err e ∙ joined_is c.args.frame.now c.args.at c.args.count (omega arith) (Err c.in-Err.cause) (Err c.in-Err-high-2.other) c.in-Err.ensures.is c.in-Err-high-2.ensures.is
