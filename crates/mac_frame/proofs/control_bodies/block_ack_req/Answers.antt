use Rattle.std.proofs.Common.{sym, refl, arith}
use Rattle.std.proofs.lemmas.Grind.{common_steps}
use Rattle.mac_types.specs.Numbers.{sequence_control, block_ack_control}
use Rattle.mac_frame.specs.Spelling.{word}
use Rattle.mac_frame.proofs.Joining.{joins, ends_here}
use Rattle.mac_frame.proofs.control_bodies.block_ack_req.Goals as goal

pub returns-clause-found : goal.returns-clause-found
returns-clause-found c =
    let b = c.args.bytes.now in
    let tail = c.tail_from.result.now in
    record {
      faultless = grind (arith, common_steps);
      subtype = refl;
      spelled = joins (word (block_ack_control c.in-Some.tid)) c.in-Some.ensures.spelled (joins (word (sequence_control c.in-Some-sequence_from.start)) c.in-Some-sequence_from.ensures.spelled (sym c.tail_from.ensures));
      fits = (c.in-Some.ensures.fits, c.in-Some-sequence_from.ensures.fits, ends_here 20 b tail (omega arith) c.tail_from.ensures);
    }
