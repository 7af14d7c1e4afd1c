use Rattle.std.proofs.Common.{◌≡◌, inr, ◌∙◌, sym, ap, Err}
use Rattle.bpf_model.specs.Step.{atomic_bytes}
use Rattle.bpf_absstate.specs.View.{register}
use Rattle.bpf_rules.specs.Examined.{compared}
use Rattle.bpf_rules.specs.Memory.{operands_fault}
use Rattle.bpf_checks.proofs.Slots.{atomic_refused}
use Rattle.bpf_checks.proofs.memory.atomic_through.Goals as goal

pub returns-in_default : goal.returns-in_default
returns-in_default c =
    let s = c.args.state in
    let number : c.register-number.result ≡ register s c.args.exchange.src = c.register-number.ensures.is in
    let expected : c.expected_by-expected.result ≡ compared c.args.exchange.op s = c.expected_by-expected.ensures.is in
    let is : c.fault_of_operands.result ≡ operands_fault c.args.address.pointer (register s c.args.exchange.src) (compared c.args.exchange.op s) =
    c.fault_of_operands.ensures.is ∙ ap (λ x. operands_fault c.args.address.pointer x c.expected_by-expected.result) number ∙ ap (λ x. operands_fault c.args.address.pointer (register s c.args.exchange.src) x) expected in
    record { is = inr (atomic_refused c.args.shapes.now s (atomic_bytes c.args.exchange.wide) c.args.exchange.op c.args.exchange.src c.args.address.by c.args.address.pointer (register s c.args.exchange.src) (compared c.args.exchange.op s) c.in_default.not-Pointer ∙ ap Err (sym is)) }
