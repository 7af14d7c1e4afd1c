use Rattle.std.proofs.Common.{◌≡◌, sym, ap, ◌∙◌, [], length, Ok, Err}
use Rattle.bpf_words.specs.Word.{word_add, word_of}
use Rattle.bpf_model.specs.Run.{setting}
use Rattle.bpf_model.specs.State.{Setting}
use Rattle.bpf_model.specs.Step.{atomic_bytes}
use Rattle.bpf_model.specs.Memory.{place, atomic_at, atomic_region}
use Rattle.bpf_tagged.specs.Took.{at}
use Rattle.bpf_tagged.proofs.Moving.{faults, same, at_is}
use Rattle.bpf_tagged.proofs.atomics.perform_atomic.Goals as goal

pub returns-in-Err-clause-performs : goal.returns-in-Err-clause-performs
returns-in-Err-clause-performs g c =
    faults g.P.Port.gives c.args.input.shapes.now _ _ _ c.args.machine.now _ (λ notes. c.in-Err.ensures.err (setting [] c.args.input.shapes.now c.args.input.frame.now c.args.input.context.now) (at c.args.machine.now notes) (atomic_bytes c.args.atomic.wide) c.args.atomic.op c.args.atomic.src c.args.offset)

pub returns-in-Err-for_atomic-clause-performs : goal.returns-in-Err-for_atomic-clause-performs
returns-in-Err-for_atomic-clause-performs g c =
    let a : c.with_offset-at.result ≡ word_add c.in-Ok.target.base (word_of c.args.offset) = at_is _ _ _ c.ranges.offset c.with_offset-at.ensures in
    let r : atomic_region c.in-Ok.target.region (word_add c.in-Ok.target.base (word_of c.args.offset)) (atomic_bytes c.args.atomic.wide) ≡ Err c.in-Err-for_atomic.refused =
    ap (λ w. atomic_region c.in-Ok.target.region (word_add c.in-Ok.target.base (word_of c.args.offset)) w) (sym c.atomic_size-size.ensures.is)
    ∙ ap (λ x. atomic_region c.in-Ok.target.region x c.atomic_size-size.result) (sym a) ∙ sym c.in-Err-for_atomic.ensures in
    faults g.P.Port.gives c.args.input.shapes.now _ _ _ c.args.machine.now _ (λ notes. simp (c.in-Ok.ensures.to, c.in-Ok.ensures.value, c.in-Ok.ensures.compared, r))

pub returns-in-Err-place_of-clause-performs : goal.returns-in-Err-place_of-clause-performs
returns-in-Err-place_of-clause-performs g c =
    let S : Setting = setting [] c.args.input.shapes.now c.args.input.frame.now c.args.input.context.now in
    let a : c.with_offset-at.result ≡ word_add c.in-Ok.target.base (word_of c.args.offset) = at_is _ _ _ c.ranges.offset c.with_offset-at.ensures in
    let r : atomic_region c.in-Ok.target.region (word_add c.in-Ok.target.base (word_of c.args.offset)) (atomic_bytes c.args.atomic.wide) ≡ Ok c.in-Ok-for_atomic.region =
    ap (λ w. atomic_region c.in-Ok.target.region (word_add c.in-Ok.target.base (word_of c.args.offset)) w) (sym c.atomic_size-size.ensures.is)
    ∙ ap (λ x. atomic_region c.in-Ok.target.region x c.atomic_size-size.result) (sym a) ∙ sym c.in-Ok-for_atomic.ensures in
    let e : place S (length c.args.machine.now.stack.items) c.in-Ok-for_atomic.region (word_add c.in-Ok.target.base (word_of c.args.offset)) (atomic_bytes c.args.atomic.wide) ≡ Err c.in-Err-place_of.other =
    ap (λ w. place S (length c.args.machine.now.stack.items) c.in-Ok-for_atomic.region (word_add c.in-Ok.target.base (word_of c.args.offset)) w) (sym c.atomic_size-size.ensures.is)
    ∙ ap (λ d. place S d c.in-Ok-for_atomic.region (word_add c.in-Ok.target.base (word_of c.args.offset)) c.atomic_size-size.result) (sym c.len-depth.ensures.value)
    ∙ ap (λ x. place S c.len-depth.result c.in-Ok-for_atomic.region x c.atomic_size-size.result) (sym a) ∙ sym c.in-Err-place_of.ensures.is in
    faults g.P.Port.gives c.args.input.shapes.now _ _ _ c.args.machine.now _ (λ notes. simp (c.in-Ok.ensures.to, c.in-Ok.ensures.value, c.in-Ok.ensures.compared, r, e))

pub returns-in-Ok-place_of-clause-performs : goal.returns-in-Ok-place_of-clause-performs
returns-in-Ok-place_of-clause-performs g c =
    let S : Setting = setting [] c.args.input.shapes.now c.args.input.frame.now c.args.input.context.now in
    let a : c.with_offset-at.result ≡ word_add c.in-Ok.target.base (word_of c.args.offset) = at_is _ _ _ c.ranges.offset c.with_offset-at.ensures in
    let r : atomic_region c.in-Ok.target.region (word_add c.in-Ok.target.base (word_of c.args.offset)) (atomic_bytes c.args.atomic.wide) ≡ Ok c.in-Ok-for_atomic.region =
    ap (λ w. atomic_region c.in-Ok.target.region (word_add c.in-Ok.target.base (word_of c.args.offset)) w) (sym c.atomic_size-size.ensures.is)
    ∙ ap (λ x. atomic_region c.in-Ok.target.region x c.atomic_size-size.result) (sym a) ∙ sym c.in-Ok-for_atomic.ensures in
    let e : place S (length c.args.machine.now.stack.items) c.in-Ok-for_atomic.region (word_add c.in-Ok.target.base (word_of c.args.offset)) (atomic_bytes c.args.atomic.wide) ≡ Ok c.in-Ok-place_of.place =
    ap (λ w. place S (length c.args.machine.now.stack.items) c.in-Ok-for_atomic.region (word_add c.in-Ok.target.base (word_of c.args.offset)) w) (sym c.atomic_size-size.ensures.is)
    ∙ ap (λ d. place S d c.in-Ok-for_atomic.region (word_add c.in-Ok.target.base (word_of c.args.offset)) c.atomic_size-size.result) (sym c.len-depth.ensures.value)
    ∙ ap (λ x. place S c.len-depth.result c.in-Ok-for_atomic.region x c.atomic_size-size.result) (sym a) ∙ sym c.in-Ok-place_of.ensures.is in
    same g.P.Port.gives c.args.input.shapes.now (λ s. atomic_at s (atomic_bytes c.args.atomic.wide) c.operation_on_map.result c.register_for_old.result c.in-Ok-place_of.place) _ _ _ _ c.args.machine.now _
    (λ notes. simp (c.in-Ok.ensures.to, c.in-Ok.ensures.value, c.in-Ok.ensures.compared, r, e, c.operation_on_map.ensures.is, c.register_for_old.ensures.is)) (rw c.requires.shapes at c.atomic_placed.ensures.performs)
