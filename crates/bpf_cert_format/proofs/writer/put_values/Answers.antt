use Rattle.std.proofs.Common.{sym}
use Rattle.bpf_cert_format.specs.Fits.{FitsValue}
use Rattle.bpf_cert_format.proofs.Refusals.{passed_on, fits_at}
use Rattle.bpf_cert_format.proofs.writer.put_values.Goals as goal

pub returns-in_err-put_value-clause-fitting : goal.returns-in_err-put_value-clause-fitting
returns-in_err-put_value-clause-fitting c = λ maps count few_maps few_frames all.
    let here = fits_at (FitsValue maps count) c.args.values.now c.loop-value.value-index c.value-item.result c.loop-value-test.true (sym c.value-item.is) all in
    passed_on c.from_residual.result c.in_err-put_value.field-0.0 c.from_residual.ensures.1 (c.in_err-put_value.ensures.fitting maps count few_maps few_frames here)
