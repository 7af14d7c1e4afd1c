use Rattle.bpf_cert_format.proofs.Refusals.{passed_on}
use Rattle.bpf_cert_format.proofs.writer.put_entries.Goals as goal

pub returns-in_err-put_leaf_list-clause-fitting : goal.returns-in_err-put_leaf_list-clause-fitting
returns-in_err-put_leaf_list-clause-fitting c = λ maps few_maps few all.
    let r = c.from_residual-in_err-put_leaf_list in
    passed_on r.result c.in_err-put_leaf_list.field-0.0 r.ensures.1 (c.in_err-put_leaf_list.ensures.fitting maps few_maps all)
