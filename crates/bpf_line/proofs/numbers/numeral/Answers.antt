use Rattle.std.proofs.Common.{rules}
use Rattle.bpf_line.proofs.Digits.{IsUtf8-numeral, numeral-too_large}
use Rattle.bpf_line.proofs.numbers.numeral.Goals as goal

pub returns-in_default : goal.returns-in_default
returns-in_default c = search (rules, IsUtf8-numeral c.args.radix c.args.text.now)

pub returns-in-Err : goal.returns-in-Err
returns-in-Err c = search (rules, numeral-too_large c.args.radix c.args.text.now)
