use Rattle.std.proofs.Common.{rules, ◌≡◌}
use Rattle.apd_program.specs.Printed.{WholeText, BeginningOfText}
use Rattle.apd_program.proofs.messages.print_text.Goals as goal

pub returns-in-Ok : goal.returns-in-Ok
returns-in-Ok g c =
    let same : c.as_bytes.result.now ≡ c.args.text.now = search rules in
    record { is = WholeText (rw same at c.in-Ok.ensures.whole) }

pub returns-in-Err : goal.returns-in-Err
returns-in-Err g c =
    let same : c.as_bytes.result.now ≡ c.args.text.now = search rules in
    record { is = rw c.unwritten.ensures.is (BeginningOfText (rw same at c.write_whole.ensures.beginning)) }
