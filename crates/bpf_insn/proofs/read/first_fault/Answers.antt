use Rattle.std.proofs.Common.{◌≡◌, refl, subst, sym, ◌∙◌}
use Rattle.std.specs.Prelude.{pos}
use Rattle.std.specs.Int.{w16, w32}
use Rattle.std.proofs.lemmas.Int.{to_z-of_z}
use Rattle.bpf_insn.specs.Uses.{uses_of}
use Rattle.bpf_insn.specs.Reading.{least_of}
use Rattle.bpf_insn.proofs.Least.{Finds, InSlot, AllFine, finds_field, finds_first, all_fine}
use Rattle.bpf_insn.proofs.read.first_fault.Goals as goal

found : (c : goal.After-least-4) → Finds (InSlot (uses_of c.args.kind) c.args.kind c.args.fields c.args.half) (AllFine (uses_of c.args.kind) c.args.kind c.args.fields c.args.half) c.least-4.result
found c =
    let u = c.uses_in-uses.result in
    let f = c.args.fields in
    let dst = finds_field u.dst (pos f.dst) _ c.breach-dst.result (to_z-of_z w32 c.from.result (record { sfits = c.from.type_inv }) ∙ c.from.ensures) c.breach-dst.ensures.none c.breach-dst.ensures.some in
    let src = finds_field u.src (pos f.src) _ c.breach-src.result (to_z-of_z w32 c.from-2.result (record { sfits = c.from-2.type_inv }) ∙ c.from-2.ensures) c.breach-src.ensures.none c.breach-src.ensures.some in
    let offset = finds_field u.offset f.offset _ c.breach-offset.result (to_z-of_z w32 c.from-3.result (record { sfits = c.from-3.type_inv }) ∙ c.from-3.ensures ∙ to_z-of_z w16 f.offset c.requires.offset) c.breach-offset.ensures.none c.breach-offset.ensures.some in
    let imm = finds_field u.imm f.imm _ c.breach-imm.result (to_z-of_z w32 f.imm c.requires.imm) c.breach-imm.ensures.none c.breach-imm.ensures.some in
    let all = finds_first u c.args.kind f c.args.half _ _ _ _ _ dst src offset imm c.second_fault-second.ensures.none c.second_fault-second.ensures.some in
    let e : c.least-4.result ≡ least_of (least_of c.breach-dst.result (least_of c.breach-src.result (least_of c.breach-offset.result c.breach-imm.result))) c.second_fault-second.result = rw (c.least-4.ensures, c.least-3.ensures, c.least-2.ensures, c.least.ensures) refl in
    let whole : Finds (InSlot u c.args.kind f c.args.half) (AllFine u c.args.kind f c.args.half) c.least-4.result = subst (Finds (InSlot u c.args.kind f c.args.half) (AllFine u c.args.kind f c.args.half)) (sym e) all in
    subst (λ v. Finds (InSlot v c.args.kind f c.args.half) (AllFine v c.args.kind f c.args.half) c.least-4.result) c.uses_in-uses.ensures whole

pub returns-clause-fields : goal.returns-clause-fields
returns-clause-fields c = all_fine c.least-4.result (uses_of c.args.kind) c.args.kind c.args.fields c.args.half (found c).none

pub returns-clause-some : goal.returns-clause-some
returns-clause-some c = (found c).some
