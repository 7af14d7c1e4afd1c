use Rattle.bpf_cert.proofs.Entries.{stands_well}
use Rattle.bpf_cert.proofs.checker.stands.Goals as goal

pub returns-then-begins : goal.returns-then-begins
returns-then-begins c =
    record { is = stands_well c.args.program.now c.args.entry.now c.pc.result c.frames.result.now c.returns_well.result c.pc.ensures.is c.frames.ensures.is c.if-begins.ensures.is c.returns_well.ensures.is }
