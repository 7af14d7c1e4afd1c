use Rattle.std.proofs.Common.{subst}
use Rattle.bpf_cert_format.specs.Fits.{FitsCell}
use Rattle.bpf_cert_format.proofs.Refusals.{passed_on, stored_fits}
use Rattle.bpf_cert_format.proofs.writer.put_cell.Goals as goal

pub returns-in_err-put_value-in-Stored-clause-fitting : goal.returns-in_err-put_value-in-Stored-clause-fitting
returns-in_err-put_value-in-Stored-clause-fitting c = λ maps count few_maps few_frames fits.
    let r = c.from_residual-in_err-put_value-in-Stored in
    let here = stored_fits maps count c.in-Stored.value (subst (FitsCell maps count) c.in-Stored.is fits) in
    passed_on r.result c.in_err-put_value-in-Stored.field-0.0 r.ensures.1 (c.in_err-put_value-in-Stored.ensures.fitting maps count few_maps few_frames here)
