use Rattle.std.proofs.Common.{◌≡◌, Ok, refl}
use Rattle.apd_text.proofs.Rawly.{none_left, lists_rest, lists_insn, lists_slot}
use Rattle.apd_text.proofs.raw.append_first.Goals as goal

pub returns-in_default : goal.returns-in_default
returns-in_default c = record { lists = lists_rest _ _ _ _ _ _ c.requires.some c.in_default.ensures.cases (none_left _ _) c.in_ok-append_bytes.ensures.ok }

pub returns-in_ok-append_insn-in-Ok : goal.returns-in_ok-append_insn-in-Ok
returns-in_ok-append_insn-in-Ok c =
    let cut = c.in-Some.ensures.cases in
    record { lists = lists_insn _ _ _ _ _ _ _ _ cut.0 cut.1 cut.2 c.second_slot.ensures.is _ c.in-Ok.insn ((c.in-Ok.ensures.ok c.in-Ok.insn).0 refl) c.after_insn.ensures.is c.in_ok-append_insn-in-Ok.ensures.ok }

pub returns-in_ok-append_bytes-in-Err : goal.returns-in_ok-append_bytes-in-Err
returns-in_ok-append_bytes-in-Err c =
    let cut = c.in-Some.ensures.cases in
    record { lists = lists_slot _ _ _ _ _ _ _ _ cut.0 cut.1 cut.2 c.second_slot.ensures.is (λ insn spelled. let bad = (c.in-Err.ensures.ok insn).1 spelled in cc) c.in_ok-append_bytes-in-Err.ensures.ok }
