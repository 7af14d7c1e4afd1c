use Rattle.std.proofs.Common.{arith}
use Rattle.bpf_cert_format.proofs.Again.{is_found, is_only}
use Rattle.bpf_cert_format.proofs.reader.read.Goals as goal

pub returns-clause-found : goal.returns-clause-found
returns-clause-found c =
    let h = rw c.len.ensures.is at c.all.ensures.is in
    is_found c.args.shapes.now c.args.bytes.now c.all.result (λ i. omega (arith, c.type_inv.bytes i)) h

pub returns-clause-only : goal.returns-clause-only
returns-clause-only c =
    let h = rw c.len.ensures.is at c.all.ensures.is in
    λ x spelled. is_only c.args.shapes.now c.args.bytes.now c.all.result x h spelled
