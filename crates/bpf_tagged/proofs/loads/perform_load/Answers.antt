use Rattle.std.proofs.Common.{◌≡◌, sym, ap, ◌∙◌, [], length, Ok, Err}
use Rattle.bpf_words.specs.Word.{word_add, word_of}
use Rattle.bpf_model.specs.Run.{setting}
use Rattle.bpf_model.specs.State.{Setting}
use Rattle.bpf_model.specs.Memory.{place, load_at}
use Rattle.bpf_tagged.specs.Took.{at}
use Rattle.bpf_tagged.proofs.Moving.{faults, same, at_is}
use Rattle.bpf_tagged.proofs.loads.perform_load.Goals as goal

pub returns-in-Err-clause-performs : goal.returns-in-Err-clause-performs
returns-in-Err-clause-performs g c =
    faults g.P.Port.gives c.args.input.shapes.now _ _ _ c.args.machine.now _ (λ notes. c.in-Err.ensures.err (setting [] c.args.input.shapes.now c.args.input.frame.now c.args.input.context.now) (at c.args.machine.now notes) c.args.load.size c.args.load.signed c.args.load.dst c.args.offset)

pub returns-in-Err-place_of-clause-performs : goal.returns-in-Err-place_of-clause-performs
returns-in-Err-place_of-clause-performs g c =
    let S : Setting = setting [] c.args.input.shapes.now c.args.input.frame.now c.args.input.context.now in
    let a : c.with_offset-at.result ≡ word_add c.in-Ok.target.base (word_of c.args.offset) = at_is _ _ _ c.ranges.offset c.with_offset-at.ensures in
    let e : place S (length c.args.machine.now.stack.items) c.in-Ok.target.region (word_add c.in-Ok.target.base (word_of c.args.offset)) c.args.load.size ≡ Err c.in-Err-place_of.other =
    ap (λ d. place S d c.in-Ok.target.region (word_add c.in-Ok.target.base (word_of c.args.offset)) c.args.load.size) (sym c.len-depth.ensures.value)
    ∙ ap (λ x. place S c.len-depth.result c.in-Ok.target.region x c.args.load.size) (sym a) ∙ sym c.in-Err-place_of.ensures.is in
    faults g.P.Port.gives c.args.input.shapes.now _ _ _ c.args.machine.now _ (λ notes. simp (c.in-Ok.ensures.ok, e))

pub returns-in-Ok-place_of-clause-performs : goal.returns-in-Ok-place_of-clause-performs
returns-in-Ok-place_of-clause-performs g c =
    let S : Setting = setting [] c.args.input.shapes.now c.args.input.frame.now c.args.input.context.now in
    let a : c.with_offset-at.result ≡ word_add c.in-Ok.target.base (word_of c.args.offset) = at_is _ _ _ c.ranges.offset c.with_offset-at.ensures in
    let e : place S (length c.args.machine.now.stack.items) c.in-Ok.target.region (word_add c.in-Ok.target.base (word_of c.args.offset)) c.args.load.size ≡ Ok c.in-Ok-place_of.place =
    ap (λ d. place S d c.in-Ok.target.region (word_add c.in-Ok.target.base (word_of c.args.offset)) c.args.load.size) (sym c.len-depth.ensures.value)
    ∙ ap (λ x. place S c.len-depth.result c.in-Ok.target.region x c.args.load.size) (sym a) ∙ sym c.in-Ok-place_of.ensures.is in
    same g.P.Port.gives c.args.input.shapes.now (λ s. load_at (setting [] [] c.args.input.frame.now c.args.input.context.now) s c.args.load.size c.args.load.signed c.args.load.dst c.in-Ok-place_of.place) _ _ _ _ c.args.machine.now _
    (λ notes. simp (c.in-Ok.ensures.ok, e)) (rw c.requires.shapes at c.load_placed.ensures.performs)
