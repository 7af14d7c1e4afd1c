use Rattle.std.proofs.Common.{subst}
use Rattle.bpf_decode.specs.Program.{IsSpelled, IsWhole}
use Rattle.bpf_decode.proofs.Whole.{spelled_whole, target_begins}
use Rattle.bpf_decode.proofs.program.Program.whole.Goals as goal

pub returns-clause-is : goal.returns-clause-is
returns-clause-is c = subst IsWhole c.self.view_is (spelled_whole c.self.invariant.bytes _ c.self.invariant.spelled)

pub returns-clause-spelled : goal.returns-clause-spelled
returns-clause-spelled c = subst IsSpelled c.self.view_is (c.self.invariant.bytes, c.self.invariant.spelled)

pub returns-clause-targets : goal.returns-clause-targets
returns-clause-targets c = λ t h. target_begins c.args.self.now t (returns-clause-is c) h
