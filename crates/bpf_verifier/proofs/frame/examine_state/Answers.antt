use Rattle.std.proofs.Common.{refl, sym, subst}
use Rattle.std.proofs.lemmas.Bool.{false≢true}
use Rattle.bpf_decode.specs.Program.{IsTarget}
use Rattle.bpf_verifier.proofs.frame.examine_state.Goals as goal

pub returns-then-is_target-clause-elsewhere : goal.returns-then-is_target-clause-elsewhere
returns-then-is_target-clause-elsewhere c = (refl, subst (IsTarget c.args.program.now.slots) c.pc-slot.ensures.is (c.if-is_target.ensures.is.0 refl))

pub returns-clause-there : goal.returns-clause-there
returns-clause-there c = λ t. absurd (false≢true (c.if-is_target.ensures.is.1 (subst (IsTarget c.args.program.now.slots) (sym c.pc-slot.ensures.is) t)))
