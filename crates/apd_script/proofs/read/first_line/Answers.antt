use Rattle.apd_script.proofs.Cuts.{lines_of-at, lines_of-one}
use Rattle.apd_script.proofs.read.first_line.Goals as goal

pub returns-in-Some : goal.returns-in-Some
returns-in-Some c =
    let cut = lines_of-at c.args.text.now c.in-Some.end c.in-Some.ensures in
    record { cut = (cut.lines, cut.shorter) }

pub returns-in-None : goal.returns-in-None
returns-in-None c = record { cut = lines_of-one c.args.text.now c.in-None.ensures }
