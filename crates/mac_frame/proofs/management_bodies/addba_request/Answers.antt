use Rattle.std.proofs.Common.{◌∷◌, ℕ, List, ◌∙◌, sym, ap, refl, arith}
use Rattle.std.proofs.lemmas.Grind.{common_steps}
use Rattle.mac_types.specs.Numbers.{sequence_control}
use Rattle.mac_types.specs.Fields.{block_ack_parameters}
use Rattle.mac_frame.specs.Spelling.{word}
use Rattle.mac_frame.proofs.Joining.{joins, joins_byte, ends_here}
use Rattle.mac_frame.proofs.management_bodies.addba_request.Goals as goal

pub returns-clause-found : goal.returns-clause-found
returns-clause-found c =
    let b = c.args.bytes.now in
    let tail = c.tail_from.result.now in
    let parameters = block_ack_parameters c.in-Some.parameters in
    let start = sequence_control c.in-Some-sequence_from.start in
    record {
      faultless = grind (arith, common_steps);
      subtype = refl;
      spelled = c.requires.opening ∙ ap (λ (t : List ℕ). 3 ∷ 0 ∷ t) (joins_byte c.byte_from.result c.byte_from.ensures.spelled (joins (word parameters) c.in-Some.ensures.spelled (joins (word c.word_from.result) c.word_from.ensures.spelled (joins (word start) c.in-Some-sequence_from.ensures.spelled (sym c.tail_from.ensures)))));
      fits = (c.in-Some.ensures.fits, c.word_from.ensures.fits, c.in-Some-sequence_from.ensures.fits, ends_here 33 b tail (omega arith) c.tail_from.ensures);
    }
