use Rattle.std.proofs.Common.{sym, refl, subst, length, arith}
use Rattle.std.proofs.lemmas.Bool.{le-ltb}
use Rattle.mac_frame.specs.Elements.{AreElements}
use Rattle.mac_frame.specs.Spelling.{word}
use Rattle.mac_frame.proofs.Joining.{joins}
use Rattle.mac_frame.proofs.management_bodies.reassociation_request.Goals as goal

pub returns-clause-found : goal.returns-clause-found
returns-clause-found c = record {
  faultless = rw (le-ltb (length c.args.bytes.now) 34 (omega arith), c.in_ok-tail.ensures.whole) refl;
  subtype = refl;
  spelled = joins (word c.capability_from.result) c.capability_from.ensures.spelled (joins (word c.word_from.result) c.word_from.ensures.spelled (joins c.address_from.result c.address_from.ensures.spelled (sym c.in_ok-tail.ensures.found)));
  fits = (c.capability_from.ensures.fits, c.word_from.ensures.fits, c.address_from.ensures.fits, subst AreElements (sym c.in_ok-tail.ensures.found) c.in_ok-tail.ensures.elements);
}
