use Rattle.std.proofs.Common.{arith, ap, ◌+◌, ◌∙◌}
use Rattle.blockack.specs.Reading.{Reading}
use Rattle.blockack.proofs.HeldLaws.{most_of}
use Rattle.blockack.proofs.agreement.Agreement.most_passed.Goals as goal
use Rattle.blockack.proofs.agreement.Agreement.most_passed.Goals.{else-ahead-gt0-via-then-ahead-gt0+else-ahead-self, else-ahead-gt0-via-else-ahead-gt0}

pub returns : goal.returns
returns g c =
    let start = ap (λ (v : Reading g.row.F.Denot). v.start) c.self.view_is in
    let size = ap (λ (v : Reading g.row.F.Denot). v.size) c.self.view_is in
    ap (λ n. n + 1) c.held.ensures.is ∙
    most_of c.args.self.now c.args.number
    (λ behind within. elim c.else-ahead-gt0.branch [
      | else-ahead-gt0-via-then-ahead-gt0+else-ahead-self w ↦ omega (arith, start, size, behind, within, c.distance-ahead.ensures, w.if-ahead-self.false)
      | else-ahead-gt0-via-else-ahead-gt0 w ↦ omega (arith, start, behind, c.distance-ahead.ensures, w.if-ahead-gt0.false)
    ])
