use Rattle.apd_program.specs.Drawings.{IsDrawingWith}
use Rattle.apd_program.proofs.Said.{IsOfProgram-decoded, IsOfProgram-undecoded}
use Rattle.apd_program.proofs.graph.draw.Goals as goal

pub returns-in-Ok-clause-drawing : goal.returns-in-Ok-clause-drawing
returns-in-Ok-clause-drawing c = IsOfProgram-decoded (IsDrawingWith c.args.explain) _ _ _ c.in-Ok.program c.in-Ok.ensures.ok c.in-Ok.ensures.shapes c.drawn_with.ensures.drawing

pub returns-in-Err-clause-drawing : goal.returns-in-Err-clause-drawing
returns-in-Err-clause-drawing c = IsOfProgram-undecoded (IsDrawingWith c.args.explain) _ _ _ c.in-Err.fault c.in-Err.ensures.err c.undecoded.ensures.fault
