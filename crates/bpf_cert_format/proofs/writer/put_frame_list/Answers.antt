use Rattle.std.proofs.Common.{sym}
use Rattle.bpf_cert_format.specs.Fits.{FitsFrame}
use Rattle.bpf_cert_format.proofs.Refusals.{passed_on, fits_at}
use Rattle.bpf_cert_format.proofs.writer.put_frame_list.Goals as goal

pub returns-in_err-put_frame-clause-fitting : goal.returns-in_err-put_frame-clause-fitting
returns-in_err-put_frame-clause-fitting c = λ maps count few_maps few_frames all.
    let here = fits_at (FitsFrame maps count) c.args.frames.now c.loop-frame.frame-index c.frame-item.result c.loop-frame-test.true (sym c.frame-item.is) all in
    passed_on c.from_residual.result c.in_err-put_frame.field-0.0 c.from_residual.ensures.1 (c.in_err-put_frame.ensures.fitting maps count few_maps few_frames here)
