use Rattle.std.proofs.Common.{sym, append-nil}
use Rattle.std.specs.String.{string_bytes}
use Rattle.apd_eval.proofs.Listed.{next_line}
use Rattle.apd_eval.proofs.profile.append_slots.Goals as goal

pub loop-slot-init : goal.loop-slot-init
loop-slot-init c = sym (append-nil (string_bytes c.args.text.now))

pub loop-slot-preserved : goal.loop-slot-preserved
loop-slot-preserved c = next_line c.args.json c.args.profile.program.now.slots c.args.profile.counts.now c.loop-slot.slot _ _ _ c.loop-slot.invariant c.in_ok-append_slot.ensures.ok
