use Rattle.std.proofs.Common.{◌∷◌, ℕ, List, ◌∙◌, sym, ap, refl, arith}
use Rattle.std.proofs.lemmas.Grind.{common_steps}
use Rattle.mac_types.specs.Fields.{delba_parameters}
use Rattle.mac_frame.specs.Spelling.{word}
use Rattle.mac_frame.proofs.Joining.{joins, ends_here}
use Rattle.mac_frame.proofs.management_bodies.delba.Goals as goal

pub returns-clause-found : goal.returns-clause-found
returns-clause-found c =
    let b = c.args.bytes.now in
    let tail = c.tail_from.result.now in
    let parameters = delba_parameters c.in-Some.parameters in
    record {
      faultless = grind (arith, common_steps);
      subtype = refl;
      spelled = c.requires.opening ∙ ap (λ (t : List ℕ). 3 ∷ 2 ∷ t) (joins (word parameters) c.in-Some.ensures.spelled (joins (word c.reason_from.result) c.reason_from.ensures.spelled (sym c.tail_from.ensures)));
      fits = (c.in-Some.ensures.fits, c.reason_from.ensures.fits, ends_here 30 b tail (omega arith) c.tail_from.ensures);
    }
