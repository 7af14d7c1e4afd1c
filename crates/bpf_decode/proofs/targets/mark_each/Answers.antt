use Rattle.std.proofs.Common.{◌≡◌, Some, refl, sym, length}
use Rattle.std.specs.Prelude.{slice_get}
use Rattle.std.proofs.lemmas.Option.{slice_get_read}
use Rattle.bpf_decode.proofs.Marks.{marks_step, marks_all}
use Rattle.bpf_decode.proofs.targets.mark_each.Goals as goal

pub loop-at-preserved : goal.loop-at-preserved
loop-at-preserved c =
    let holds : slice_get c.args.slots.now c.loop-at.at ≡ Some c.index-slots-at.result =
    slice_get_read c.args.slots.now (length c.args.slots.now) c.loop-at.at c.index-slots-at.result refl c.loop-at-test.true c.index-slots-at.is in
    λ t. marks_step c.loop-at.at c.args.slots.now c.index-slots-at.result t _ _ _ _ _ (sym c.mark_all.auto.targets) holds (c.loop-at.invariant t) (c.mark_all.ensures.is t)

pub returns : goal.returns
returns c = record { is = λ t. marks_all c.loop-at.at c.args.slots.now t _ _ _ _ c.loop-at.auto.targets c.loop-at-test.false (c.loop-at.invariant t) }
