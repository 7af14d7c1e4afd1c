use Rattle.apd_script.proofs.Quitting.{no_quit, untrue}
use Rattle.apd_script.proofs.batch.begins_with_quit.Goals as goal

pub returns-in_default-None : goal.returns-in_default-None
returns-in_default-None c =
    let one = rw c.in_default-None.is-1 at c.first_line.ensures.cut in
    record { is = (λ e. absurd (untrue e), λ h. absurd (no_quit c.args.text.now c.first_line.result.0.now one h)) }
