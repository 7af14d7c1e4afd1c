use Rattle.std.proofs.Common.{sym}
use Rattle.bpf_cert_format.specs.Fits.{FitsCell}
use Rattle.bpf_cert_format.proofs.Refusals.{passed_on, fits_at}
use Rattle.bpf_cert_format.proofs.writer.put_slots.Goals as goal

pub returns-in_err-put_cell-clause-fitting : goal.returns-in_err-put_cell-clause-fitting
returns-in_err-put_cell-clause-fitting c = λ maps count few_maps few_frames all.
    let here = fits_at (FitsCell maps count) c.args.slots.now c.loop-slot.slot-index c.slot-item.result c.loop-slot-test.true (sym c.slot-item.is) all in
    passed_on c.from_residual.result c.in_err-put_cell.field-0.0 c.from_residual.ensures.1 (c.in_err-put_cell.ensures.fitting maps count few_maps few_frames here)
