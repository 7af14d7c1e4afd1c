use Rattle.std.proofs.Common.{sym}
use Rattle.bpf_cert_format.specs.Fits.{FitsEntry}
use Rattle.bpf_cert_format.proofs.Refusals.{passed_on, fits_at}
use Rattle.bpf_cert_format.proofs.writer.put_leaf_list.Goals as goal

pub returns-in_err-put_leaf-clause-fitting : goal.returns-in_err-put_leaf-clause-fitting
returns-in_err-put_leaf-clause-fitting c = λ maps few_maps all.
    let here = fits_at (FitsEntry maps) c.args.leaves.now c.loop-leaf.leaf-index c.leaf-item.result c.loop-leaf-test.true (sym c.leaf-item.is) all in
    passed_on c.from_residual.result c.in_err-put_leaf.field-0.0 c.from_residual.ensures.1 (c.in_err-put_leaf.ensures.fitting maps few_maps here)
