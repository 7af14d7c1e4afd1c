use Rattle.std.proofs.Common.{sym, subst, ap, ◌∙◌}
use Rattle.bpf_cert_format.specs.Fits.{FitsEntry}
use Rattle.bpf_cert_format.specs.Leaves.{entry_in}
use Rattle.bpf_cert_format.proofs.Refusals.{passed_on}
use Rattle.bpf_cert_format.proofs.writer.put_leaf.Goals as goal

pub returns-in_err-put_entry-in-Read-clause-fitting : goal.returns-in_err-put_entry-in-Read-clause-fitting
returns-in_err-put_entry-in-Read-clause-fitting c = λ maps few_maps fits.
    let r = c.from_residual in
    let here = subst (FitsEntry maps) (sym c.kind.ensures.is ∙ ap entry_in c.in-Read.is) fits in
    passed_on r.result c.in_err-put_entry-in-Read.field-0.0 r.ensures.1 (c.in_err-put_entry-in-Read.ensures.fitting maps few_maps here)

pub returns-in_err-put_entry-in-Spelled-clause-fitting : goal.returns-in_err-put_entry-in-Spelled-clause-fitting
returns-in_err-put_entry-in-Spelled-clause-fitting c = λ maps few_maps fits.
    let r = c.from_residual-in_err-put_entry-in-Spelled in
    let here = subst (FitsEntry maps) (sym c.kind.ensures.is ∙ ap entry_in c.in-Spelled.is ∙ sym c.in_ok-entry-in-Spelled.ensures.is) fits in
    passed_on r.result c.in_err-put_entry-in-Spelled.field-0.0 r.ensures.1 (c.in_err-put_entry-in-Spelled.ensures.fitting maps few_maps here)
