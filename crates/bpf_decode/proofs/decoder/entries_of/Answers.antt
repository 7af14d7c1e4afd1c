use Rattle.std.proofs.Common.{arith}
use Rattle.bpf_decode.proofs.Tables.{table_push, clean_more, fault_in}
use Rattle.bpf_decode.proofs.decoder.entries_of.Goals as goal

pub loop-at-preserved : goal.loop-at-preserved
loop-at-preserved c = record {
  table = table_push c.args.code.now c.loop-at.slots.items c.push.new.self.items c.in-Ok.entry c.loop-at.at c.loop-at.invariant.table c.in-Ok.ensures.entry c.in_ok-push-in-Ok.ensures.items;
  clean = clean_more c.args.code.now c.args.shapes.now c.loop-at.at c.loop-at.invariant.clean c.in-Ok.ensures.clean;
}

pub returns-clause-clean : goal.returns-clause-clean
returns-clause-clean c = λ k n f. c.loop-at.invariant.clean k n (omega (arith, fault_in c.args.code.now c.args.shapes.now k n f)) f
