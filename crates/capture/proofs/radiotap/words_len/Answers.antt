use Rattle.std.proofs.Common.{arith}
use Rattle.std.proofs.lemmas.Grind.{common_steps}
use Rattle.capture.specs.Radiotap.{words_len}
use Rattle.capture.proofs.Present.{next}
use Rattle.capture.proofs.radiotap.words_len.Goals as goal

pub loop-rest-preserved : goal.loop-rest-preserved
loop-rest-preserved c = record {
  same = next (words_len c.args.bytes.now) c.loop-rest.count c.loop-rest.rest.now c.split_at.result.1.now c.loop-rest.invariant.same (grind (arith)) (omega arith) c.split_at.ensures.back;
  within = grind (arith, common_steps);
}
