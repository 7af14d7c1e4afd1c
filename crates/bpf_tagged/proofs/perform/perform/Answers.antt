use Rattle.std.proofs.Common.{rules, []}
use Rattle.bpf_model.specs.Run.{setting}
use Rattle.std.proofs.lemmas.Int.{to_z-of_z}
use mir.Val.{SFits}
use mir.Syntax.{w16, w32}
use Rattle.bpf_insn.specs.declared.insn.Insn.TheVariants.{Jump, JumpLong, CallLocal, Branch}
use Rattle.bpf_model.specs.Step.{next_of}
use Rattle.bpf_tagged.specs.Took.{Moves}
use Rattle.bpf_tagged.proofs.Moving.{same, moves}
use Rattle.bpf_tagged.proofs.perform.perform.Goals as goal

pub returns-in-Alu-clause-performs : goal.returns-in-Alu-clause-performs
returns-in-Alu-clause-performs g c = rw c.in-Alu.is (moves g.P.Port.gives c.args.input.shapes.now _ _ _ _ _ (c.perform_alu.ensures (setting [] c.args.input.shapes.now c.args.input.frame.now c.args.input.context.now)))

pub returns-in-Alu-clause-paired : goal.returns-in-Alu-clause-paired
returns-in-Alu-clause-paired g c = (c.perform_alu.ensures (setting [] c.args.input.shapes.now c.args.input.frame.now c.args.input.context.now)).paired c.requires.paired

pub returns-in-MovSx-clause-performs : goal.returns-in-MovSx-clause-performs
returns-in-MovSx-clause-performs g c = rw c.in-MovSx.is (moves g.P.Port.gives c.args.input.shapes.now _ _ _ _ _ (c.perform_extension.ensures (setting [] c.args.input.shapes.now c.args.input.frame.now c.args.input.context.now)))

pub returns-in-MovSx-clause-paired : goal.returns-in-MovSx-clause-paired
returns-in-MovSx-clause-paired g c = (c.perform_extension.ensures (setting [] c.args.input.shapes.now c.args.input.frame.now c.args.input.context.now)).paired c.requires.paired

pub returns-in-Neg-clause-performs : goal.returns-in-Neg-clause-performs
returns-in-Neg-clause-performs g c = rw c.in-Neg.is (moves g.P.Port.gives c.args.input.shapes.now _ _ _ _ _ (c.perform_negation.ensures (setting [] c.args.input.shapes.now c.args.input.frame.now c.args.input.context.now)))

pub returns-in-Neg-clause-paired : goal.returns-in-Neg-clause-paired
returns-in-Neg-clause-paired g c = (c.perform_negation.ensures (setting [] c.args.input.shapes.now c.args.input.frame.now c.args.input.context.now)).paired c.requires.paired

pub returns-in-End-clause-performs : goal.returns-in-End-clause-performs
returns-in-End-clause-performs g c = rw c.in-End.is (moves g.P.Port.gives c.args.input.shapes.now _ _ _ _ _ (c.perform_order.ensures (setting [] c.args.input.shapes.now c.args.input.frame.now c.args.input.context.now)))

pub returns-in-End-clause-paired : goal.returns-in-End-clause-paired
returns-in-End-clause-paired g c = (c.perform_order.ensures (setting [] c.args.input.shapes.now c.args.input.frame.now c.args.input.context.now)).paired c.requires.paired

pub returns-in-Jump-clause-performs : goal.returns-in-Jump-clause-performs
returns-in-Jump-clause-performs g c =
    let fits : SFits w16 c.in-Jump.offset = search rules in
    let h : Moves (next_of (setting [] c.args.input.shapes.now c.args.input.frame.now c.args.input.context.now) (Jump c.in-Jump.offset)) c.perform_goto.result c.args.machine.now c.perform_goto.new.machine =
    rw (to_z-of_z w16 c.in-Jump.offset fits) at (c.perform_goto.ensures (setting [] c.args.input.shapes.now c.args.input.frame.now c.args.input.context.now)) in
    rw c.in-Jump.is (moves g.P.Port.gives c.args.input.shapes.now _ _ _ _ _ h)

pub returns-in-Jump-clause-paired : goal.returns-in-Jump-clause-paired
returns-in-Jump-clause-paired g c = (c.perform_goto.ensures (setting [] c.args.input.shapes.now c.args.input.frame.now c.args.input.context.now)).paired c.requires.paired

pub returns-in-JumpLong-clause-performs : goal.returns-in-JumpLong-clause-performs
returns-in-JumpLong-clause-performs g c =
    let fits : SFits w32 c.in-JumpLong.offset = search rules in
    let h : Moves (next_of (setting [] c.args.input.shapes.now c.args.input.frame.now c.args.input.context.now) (JumpLong c.in-JumpLong.offset)) c.perform_goto_long.result c.args.machine.now c.perform_goto_long.new.machine =
    rw (to_z-of_z w32 c.in-JumpLong.offset fits) at (c.perform_goto_long.ensures (setting [] c.args.input.shapes.now c.args.input.frame.now c.args.input.context.now)) in
    rw c.in-JumpLong.is (moves g.P.Port.gives c.args.input.shapes.now _ _ _ _ _ h)

pub returns-in-JumpLong-clause-paired : goal.returns-in-JumpLong-clause-paired
returns-in-JumpLong-clause-paired g c = (c.perform_goto_long.ensures (setting [] c.args.input.shapes.now c.args.input.frame.now c.args.input.context.now)).paired c.requires.paired

pub returns-in-CallLocal-clause-performs : goal.returns-in-CallLocal-clause-performs
returns-in-CallLocal-clause-performs g c =
    let fits : SFits w32 c.in-CallLocal.offset = search rules in
    let h : Moves (next_of (setting [] c.args.input.shapes.now c.args.input.frame.now c.args.input.context.now) (CallLocal c.in-CallLocal.offset)) c.perform_call_local.result c.args.machine.now c.perform_call_local.new.machine =
    rw (to_z-of_z w32 c.in-CallLocal.offset fits) at (c.perform_call_local.ensures (setting [] c.args.input.shapes.now c.args.input.frame.now c.args.input.context.now)) in
    rw c.in-CallLocal.is (moves g.P.Port.gives c.args.input.shapes.now _ _ _ _ _ h)

pub returns-in-CallLocal-clause-paired : goal.returns-in-CallLocal-clause-paired
returns-in-CallLocal-clause-paired g c = (c.perform_call_local.ensures (setting [] c.args.input.shapes.now c.args.input.frame.now c.args.input.context.now)).paired c.requires.paired

pub returns-in-LoadWide-clause-performs : goal.returns-in-LoadWide-clause-performs
returns-in-LoadWide-clause-performs g c = rw c.in-LoadWide.is (moves g.P.Port.gives c.args.input.shapes.now _ _ _ _ _ (c.perform_wide_load.ensures (setting [] c.args.input.shapes.now c.args.input.frame.now c.args.input.context.now)))

pub returns-in-LoadWide-clause-paired : goal.returns-in-LoadWide-clause-paired
returns-in-LoadWide-clause-paired g c = (c.perform_wide_load.ensures (setting [] c.args.input.shapes.now c.args.input.frame.now c.args.input.context.now)).paired c.requires.paired

pub returns-in-Exit-clause-performs : goal.returns-in-Exit-clause-performs
returns-in-Exit-clause-performs g c = rw c.in-Exit.is (moves g.P.Port.gives c.args.input.shapes.now _ _ _ _ _ c.perform_exit.ensures)

pub returns-in-Branch-clause-paired : goal.returns-in-Branch-clause-paired
returns-in-Branch-clause-paired g c = (c.perform_branch.ensures (setting [] c.args.input.shapes.now c.args.input.frame.now c.args.input.context.now) (search rules)).paired c.requires.paired

pub returns-in-Branch-clause-performs : goal.returns-in-Branch-clause-performs
returns-in-Branch-clause-performs g c =
    let fits : SFits w16 c.in-Branch.offset = search rules in
    let h : Moves (next_of (setting [] c.args.input.shapes.now c.args.input.frame.now c.args.input.context.now) (Branch c.in-Branch.compare c.in-Branch.wide c.in-Branch.dst c.in-Branch.source c.in-Branch.offset)) c.perform_branch.result c.args.machine.now c.perform_branch.new.machine =
    rw (to_z-of_z w16 c.in-Branch.offset fits) at (c.perform_branch.ensures (setting [] c.args.input.shapes.now c.args.input.frame.now c.args.input.context.now) (search rules)) in
    rw c.in-Branch.is (moves g.P.Port.gives c.args.input.shapes.now _ _ _ _ _ h)

pub returns-in-Call-clause-performs : goal.returns-in-Call-clause-performs
returns-in-Call-clause-performs g c =
    let fits : SFits w32 c.in-Call.helper = search rules in
    same g.P.Port.gives c.args.input.shapes.now _ _ _ _ _ c.args.machine.now _
    (λ notes. simp (c.in-Call.is, c.word_of_int.ensures, to_z-of_z w32 c.in-Call.helper fits)) c.perform_help.ensures.performs

pub returns-in-Load-clause-performs : goal.returns-in-Load-clause-performs
returns-in-Load-clause-performs g c =
    let fits : SFits w16 c.in-Load.offset = search rules in
    same g.P.Port.gives c.args.input.shapes.now _ _ _ _ _ c.args.machine.now _
    (λ notes. simp (c.in-Load.is, c.size_in_bytes.ensures.is, c.read-from.ensures.is, to_z-of_z w16 c.in-Load.offset fits)) c.perform_load.ensures.performs

pub returns-in-Store-clause-performs : goal.returns-in-Store-clause-performs
returns-in-Store-clause-performs g c =
    let fits : SFits w16 c.in-Store.offset = search rules in
    same g.P.Port.gives c.args.input.shapes.now _ _ _ _ _ c.args.machine.now _
    (λ notes. simp (c.in-Store.is, c.size_in_bytes-in-Store.ensures.is, c.read-to.ensures.is, c.source_of-value.ensures, to_z-of_z w16 c.in-Store.offset fits)) c.perform_store.ensures.performs

pub returns-in-Atomic-clause-performs : goal.returns-in-Atomic-clause-performs
returns-in-Atomic-clause-performs g c =
    let fits : SFits w16 c.in-Atomic.offset = search rules in
    same g.P.Port.gives c.args.input.shapes.now _ _ _ _ _ c.args.machine.now _
    (λ notes. simp (c.in-Atomic.is, c.read-to-in-Atomic.ensures.is, c.read-value.ensures.is, c.compared_with-compared.ensures, to_z-of_z w16 c.in-Atomic.offset fits)) c.perform_atomic.ensures.performs
