use Rattle.std.proofs.Common.{◌≡◌, sym, ap, ◌∙◌, [], length, Ok, Err}
use Rattle.bpf_words.specs.Word.{word_add, word_of}
use Rattle.bpf_model.specs.Run.{setting}
use Rattle.bpf_model.specs.State.{Setting}
use Rattle.bpf_model.specs.Memory.{place, storable, store_at}
use Rattle.bpf_tagged.specs.Took.{at}
use Rattle.bpf_tagged.proofs.Moving.{faults, same, at_is}
use Rattle.bpf_tagged.proofs.stores.perform_store.Goals as goal

pub returns-in-Err-clause-performs : goal.returns-in-Err-clause-performs
returns-in-Err-clause-performs g c =
    faults g.P.Port.gives c.args.input.shapes.now _ _ _ c.args.machine.now _ (λ notes. c.in-Err.ensures.err (setting [] c.args.input.shapes.now c.args.input.frame.now c.args.input.context.now) (at c.args.machine.now notes) c.args.store.size c.args.offset)

pub returns-in-Err-taken_by-clause-performs : goal.returns-in-Err-taken_by-clause-performs
returns-in-Err-taken_by-clause-performs g c =
    let a : c.with_offset-at.result ≡ word_add c.in-Ok.target.base (word_of c.args.offset) = at_is _ _ _ c.ranges.offset c.with_offset-at.ensures in
    let e : storable c.in-Ok.target.region (word_add c.in-Ok.target.base (word_of c.args.offset)) c.args.store.size c.args.store.value ≡ Err c.in-Err-taken_by.refused =
    ap (λ x. storable c.in-Ok.target.region x c.args.store.size c.args.store.value) (sym a) ∙ sym c.in-Err-taken_by.ensures in
    faults g.P.Port.gives c.args.input.shapes.now _ _ _ c.args.machine.now _ (λ notes. simp (c.in-Ok.ensures.ok, c.in-Ok.ensures.set, e))

pub returns-in-Err-place_of-clause-performs : goal.returns-in-Err-place_of-clause-performs
returns-in-Err-place_of-clause-performs g c =
    let S : Setting = setting [] c.args.input.shapes.now c.args.input.frame.now c.args.input.context.now in
    let a : c.with_offset-at.result ≡ word_add c.in-Ok.target.base (word_of c.args.offset) = at_is _ _ _ c.ranges.offset c.with_offset-at.ensures in
    let t : storable c.in-Ok.target.region (word_add c.in-Ok.target.base (word_of c.args.offset)) c.args.store.size c.args.store.value ≡ Ok c.in-Ok-taken_by.taken =
    ap (λ x. storable c.in-Ok.target.region x c.args.store.size c.args.store.value) (sym a) ∙ sym c.in-Ok-taken_by.ensures in
    let e : place S (length c.args.machine.now.stack.items) c.in-Ok.target.region (word_add c.in-Ok.target.base (word_of c.args.offset)) c.args.store.size ≡ Err c.in-Err-place_of.other =
    ap (λ d. place S d c.in-Ok.target.region (word_add c.in-Ok.target.base (word_of c.args.offset)) c.args.store.size) (sym c.len-depth.ensures.value)
    ∙ ap (λ x. place S c.len-depth.result c.in-Ok.target.region x c.args.store.size) (sym a) ∙ sym c.in-Err-place_of.ensures.is in
    faults g.P.Port.gives c.args.input.shapes.now _ _ _ c.args.machine.now _ (λ notes. simp (c.in-Ok.ensures.ok, c.in-Ok.ensures.set, t, e))

pub returns-in-Ok-place_of-clause-performs : goal.returns-in-Ok-place_of-clause-performs
returns-in-Ok-place_of-clause-performs g c =
    let S : Setting = setting [] c.args.input.shapes.now c.args.input.frame.now c.args.input.context.now in
    let a : c.with_offset-at.result ≡ word_add c.in-Ok.target.base (word_of c.args.offset) = at_is _ _ _ c.ranges.offset c.with_offset-at.ensures in
    let t : storable c.in-Ok.target.region (word_add c.in-Ok.target.base (word_of c.args.offset)) c.args.store.size c.args.store.value ≡ Ok c.in-Ok-taken_by.taken =
    ap (λ x. storable c.in-Ok.target.region x c.args.store.size c.args.store.value) (sym a) ∙ sym c.in-Ok-taken_by.ensures in
    let e : place S (length c.args.machine.now.stack.items) c.in-Ok.target.region (word_add c.in-Ok.target.base (word_of c.args.offset)) c.args.store.size ≡ Ok c.in-Ok-place_of.place =
    ap (λ d. place S d c.in-Ok.target.region (word_add c.in-Ok.target.base (word_of c.args.offset)) c.args.store.size) (sym c.len-depth.ensures.value)
    ∙ ap (λ x. place S c.len-depth.result c.in-Ok.target.region x c.args.store.size) (sym a) ∙ sym c.in-Ok-place_of.ensures.is in
    same g.P.Port.gives c.args.input.shapes.now (λ s. store_at s c.args.store.size c.in-Ok-taken_by.taken c.in-Ok-place_of.place) _ _ _ _ c.args.machine.now _
    (λ notes. simp (c.in-Ok.ensures.ok, c.in-Ok.ensures.set, t, e)) (rw c.requires.shapes at c.store_placed.ensures.performs)
