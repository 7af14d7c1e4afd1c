use Rattle.std.proofs.Common.{◌<◌, arith}
use Rattle.blockack.specs.Reading.{window_of}
use Rattle.blockack.proofs.SameLaws.{have_windows}
use Rattle.ap_agreements.proofs.Numbers.{passed_below}
use Rattle.ap_agreements.proofs.entry.Entry.close.Goals as goal

pub returns-clause-numbers : goal.returns-clause-numbers
returns-clause-numbers c =
    let v = c.into_inner-agreement.result in
    let s : v.start < 4096 = omega (arith, c.start-start.ensures.is, c.start-start.ensures.fits) in
    passed_below (c.close.ensures.passes (window_of v) (have_windows v s)).passes
