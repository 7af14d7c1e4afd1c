use Rattle.std.proofs.Common.{◌<◌, arith, ap}
use Rattle.blockack.specs.Reading.{Reading, window_of}
use Rattle.blockack.proofs.SameLaws.{have_windows}
use Rattle.ap_model.specs.Readings.{Held}
use Rattle.ap_agreements.proofs.Numbers.{passed_below}
use Rattle.ap_agreements.proofs.entry.Entry.request.Goals as goal

pub returns-clause-numbers : goal.returns-clause-numbers
returns-clause-numbers c =
    let v = c.deref_mut.result.now in
    let s : v.start < 4096 = omega (arith, c.start-start.ensures.is, c.start-start.ensures.fits, ap (λ (r : Reading Held). r.start) c.deref.ensures, ap (λ (r : Reading Held). r.start) c.deref_mut.ensures.value) in
    passed_below (c.on_bar.ensures.window (window_of v) (have_windows v s)).passes
