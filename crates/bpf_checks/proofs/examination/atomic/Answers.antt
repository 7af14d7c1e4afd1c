use Rattle.std.proofs.Common.{◌≡◌, ◌+◌, sym, ◌∙◌, ap, Ok}
use Rattle.bpf_model.specs.Step.{atomic_bytes}
use Rattle.bpf_absstate.specs.View.{register, at_slot}
use Rattle.bpf_rules.specs.Examined.{compared}
use Rattle.bpf_rules.specs.Memory.{atomic as atomics, next_pc}
use Rattle.bpf_rules.specs.declared.ways.Ways.TheVariants.{One}
use Rattle.bpf_checks.proofs.Outcomes.{ok_on}
use Rattle.bpf_checks.proofs.Slots.{atomic_pc}
use Rattle.bpf_checks.proofs.examination.atomic.Goals as goal

pub returns-in-Ok : goal.returns-in-Ok
returns-in-Ok c =
    let s = c.args.state in let o = c.args.operator in let to = c.args.address in
    let g : atomics c.args.shapes.now s (atomic_bytes o.wide) o.op o.src to.by to.pointer (register s o.src) (compared o.op s) ≡ Ok c.in-Ok.next = c.in-Ok.ensures.is in
    let same : c.in-Ok.next.pc ≡ c.pc-pc.result = atomic_pc c.args.shapes.now s (atomic_bytes o.wide) o.op o.src to.by to.pointer (register s o.src) (compared o.op s) c.in-Ok.next g ∙ sym c.pc-pc.ensures.is in
    record { is = ok_on (atomics c.args.shapes.now s (atomic_bytes o.wide) o.op o.src to.by to.pointer (register s o.src) (compared o.op s)) (λ b. Ok (One (next_pc b))) c.in-Ok.next g ∙ ap (λ k. Ok (One (at_slot c.in-Ok.next (k + 1)))) same ∙ ap Ok (sym c.goes_to.ensures.is) }
