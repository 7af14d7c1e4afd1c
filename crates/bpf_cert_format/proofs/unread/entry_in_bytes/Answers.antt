use Rattle.std.proofs.Common.{arith}
use Rattle.bpf_cert_format.proofs.Places.{entry_fits}
use Rattle.bpf_cert_format.proofs.unread.entry_in_bytes.Goals as goal

pub returns-in-Ok-clause-fits : goal.returns-in-Ok-clause-fits
returns-in-Ok-clause-fits c =
    entry_fits c.args.maps c.args.place c.args.bytes.now c.split_at.result.1.now _ c.in-Ok.entry (λ i. omega (arith, c.type_inv.bytes i)) c.split_at.ensures.back c.in-Ok.ensures.is
