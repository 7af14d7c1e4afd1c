use Rattle.apd_program.specs.Drawings.{IsDrawingWith}
use Rattle.apd_program.proofs.KeptCode.{IsOfCode-loaded}
use Rattle.apd_program.proofs.graph.graph.Goals as goal

pub returns-clause-drawing : goal.returns-clause-drawing
returns-clause-drawing g c =
    IsOfCode-loaded (λ setup. IsDrawingWith c.args.explain) _ c.args.source _ c.draw-answer.result c.in_ok-code.ensures.loaded
    (rw c.as_slice.ensures.value at c.draw-answer.ensures.drawing)
