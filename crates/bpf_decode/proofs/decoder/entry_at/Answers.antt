use Rattle.std.proofs.Common.{arith, refl}
use Rattle.bpf_decode.specs.Code.{Starts}
use Rattle.bpf_decode.proofs.Firsts.{lowest_field, lowest_rule_at, no_fault_at, err_none, ok_one}
use Rattle.bpf_decode.proofs.decoder.entry_at.Goals as goal

pub returns-in-Err-clause-fault : goal.returns-in-Err-clause-fault
returns-in-Err-clause-fault c =
    let start : Starts c.args.code.now c.args.at = (c.requires.place, grind (arith, c.requires.heads c.args.at)) in
    lowest_field c.args.code.now c.args.shapes.now c.args.at c.in-Err.fault _ c.slot_in.result c.slot_after.result refl c.slot_in.ensures.is c.slot_after.ensures.is start
    c.in-Err.ensures.err (λ i s. err_none c.in-Err.fault i ((c.in-Err.ensures.ok i).1 s))

pub returns-in-Some-clause-fault : goal.returns-in-Some-clause-fault
returns-in-Some-clause-fault c =
    let start : Starts c.args.code.now c.args.at = (c.requires.place, grind (arith, c.requires.heads c.args.at)) in
    lowest_rule_at c.args.code.now c.args.shapes.now c.args.at c.in-Ok.insn _ c.slot_in.result c.slot_after.result c.slot_in.ensures.is c.slot_after.ensures.is start
    c.in-Ok.ensures.faultless ((c.in-Ok.ensures.ok c.in-Ok.insn).0 refl) (λ j s. ok_one c.in-Ok.insn j ((c.in-Ok.ensures.ok j).1 s))
    c.in-Some.ensures.some c.in-Some.ensures.least

pub returns-in-None-clause-clean : goal.returns-in-None-clause-clean
returns-in-None-clause-clean c =
    no_fault_at c.args.code.now c.args.shapes.now c.args.at c.in-Ok.insn c.slot_in.result c.slot_after.result c.slot_in.ensures.is c.slot_after.ensures.is
    c.in-Ok.ensures.faultless (λ j s. ok_one c.in-Ok.insn j ((c.in-Ok.ensures.ok j).1 s)) c.in-None.ensures.none
