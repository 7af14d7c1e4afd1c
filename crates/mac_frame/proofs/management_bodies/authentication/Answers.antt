use Rattle.std.proofs.Common.{sym, refl, arith}
use Rattle.std.proofs.lemmas.Grind.{common_steps}
use Rattle.mac_frame.specs.Spelling.{word}
use Rattle.mac_frame.proofs.Joining.{joins, ends_here}
use Rattle.mac_frame.proofs.management_bodies.authentication.Goals as goal

pub returns-clause-found : goal.returns-clause-found
returns-clause-found c =
    let b = c.args.bytes.now in
    let tail = c.tail_from.result.now in
    record {
      faultless = grind (arith, common_steps);
      subtype = refl;
      spelled = joins (word c.word_from.result) c.word_from.ensures.spelled (joins (word c.word_from-2.result) c.word_from-2.ensures.spelled (joins (word c.status_from.result) c.status_from.ensures.spelled (sym c.tail_from.ensures)));
      fits = (c.word_from.ensures.fits, c.word_from-2.ensures.fits, c.status_from.ensures.fits, ends_here 30 b tail (omega arith) c.tail_from.ensures);
    }
