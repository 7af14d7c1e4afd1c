use Rattle.std.proofs.Common.{sym, subst}
use Rattle.std.specs.List.{AllByRecursion}
use Rattle.bpf_cert_format.specs.Fits.{FitsValue, FitsCell}
use Rattle.bpf_cert_format.proofs.Refusals.{passed_on}
use Rattle.bpf_cert_format.proofs.writer.put_frame.Goals as goal

pub returns-in_err-put_values-clause-fitting : goal.returns-in_err-put_values-clause-fitting
returns-in_err-put_values-clause-fitting c = λ maps count few_maps few_frames fits.
    let r = c.from_residual-in_err-put_values in
    let values = subst (AllByRecursion (FitsValue maps count)) (sym c.as_slice.ensures.is) fits.values in
    passed_on r.result c.in_err-put_values.field-0.0 r.ensures.1 (c.in_err-put_values.ensures.fitting maps count few_maps few_frames values)

pub returns-in_err-put_slots-clause-fitting : goal.returns-in_err-put_slots-clause-fitting
returns-in_err-put_slots-clause-fitting c = λ maps count few_maps few_frames fits.
    let r = c.from_residual-in_err-put_slots in
    let cells = subst (AllByRecursion (FitsCell maps count)) (sym c.all-slots.ensures.is) fits.cells in
    passed_on r.result c.in_err-put_slots.field-0.0 r.ensures.1 (c.in_err-put_slots.ensures.fitting maps count few_maps few_frames cells)
