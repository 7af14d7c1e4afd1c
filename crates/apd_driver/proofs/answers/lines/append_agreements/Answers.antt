use Rattle.apd_driver.specs.Answers.{agreement_words}
use Rattle.apd_driver.specs.Lines.{line_of}
use Rattle.apd_driver.proofs.Rows.{row_more}
use Rattle.apd_driver.proofs.answers.lines.append_agreements.Goals as goal

pub loop-row-preserved : goal.loop-row-preserved
loop-row-preserved c =
    row_more (λ row. line_of c.args.line (agreement_words row)) c.args.rows.now c.loop-row.row-index c.row-item.result _ _ _ c.loop-row-test.true c.row-item.is
    c.loop-row.invariant c.in_ok-append_agreement.ensures.ok
