use Rattle.std.proofs.Common.{refl}
use Rattle.bpf_cert_format.proofs.Zeros.{unset_read}
use Rattle.bpf_cert_format.proofs.parts.any_stack_at.Goals as goal

pub returns-then-begins_unset : goal.returns-then-begins_unset
returns-then-begins_unset c =
    let read = unset_read c.args.maps c.args.frames 64 c.args.bytes.now (c.if-begins_unset.ensures.is refl) in
    record { is = rw (c.unset.ensures.is, c.split_at.ensures.back) read }
