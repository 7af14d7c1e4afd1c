use Rattle.std.proofs.Common.{◌≡◌, ◌+◌, sym, ◌∙◌, ap, Ok}
use Rattle.bpf_model.specs.Memory.{size_bytes}
use Rattle.bpf_absstate.specs.View.{at_slot}
use Rattle.bpf_rules.specs.Memory.{store as stores, next_pc}
use Rattle.bpf_rules.specs.declared.ways.Ways.TheVariants.{One}
use Rattle.bpf_checks.proofs.Outcomes.{ok_on}
use Rattle.bpf_checks.proofs.Slots.{store_pc}
use Rattle.bpf_checks.proofs.examination.store.Goals as goal

pub returns-in-Ok : goal.returns-in-Ok
returns-in-Ok c =
    let s = c.args.state in
    let g : stores c.args.shapes.now s (size_bytes c.args.size) c.args.value c.args.address.pointer c.args.address.by ≡ Ok c.in-Ok.next = c.in-Ok.ensures.is in
    let same : c.in-Ok.next.pc ≡ c.pc-pc.result = store_pc c.args.shapes.now s (size_bytes c.args.size) c.args.value c.args.address.pointer c.args.address.by c.in-Ok.next g ∙ sym c.pc-pc.ensures.is in
    record { is = ok_on (stores c.args.shapes.now s (size_bytes c.args.size) c.args.value c.args.address.pointer c.args.address.by) (λ b. Ok (One (next_pc b))) c.in-Ok.next g ∙ ap (λ k. Ok (One (at_slot c.in-Ok.next (k + 1)))) same ∙ ap Ok (sym c.goes_to.ensures.is) }
