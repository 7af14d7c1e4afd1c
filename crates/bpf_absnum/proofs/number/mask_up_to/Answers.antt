use Rattle.std.proofs.Common.{sym, ap, ◌∙◌}
use Rattle.bpf_absnum.specs.Number.{ones_up_to}
use Rattle.bpf_absnum.proofs.Tighten.{mask_of_zero, mask_by_shift}
use Rattle.bpf_absnum.proofs.number.mask_up_to.Goals as goal

pub returns-then-number-eq0 : goal.returns-then-number-eq0
returns-then-number-eq0 c = sym mask_of_zero ∙ sym (ap ones_up_to c.if-number-eq0.true)

pub returns-else-number-eq0 : goal.returns-else-number-eq0
returns-else-number-eq0 c = mask_by_shift c.args.number
