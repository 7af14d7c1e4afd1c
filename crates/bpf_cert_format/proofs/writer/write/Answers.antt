use Rattle.std.proofs.Common.{◌≡◌, ◌<◌, ◌^◌, List, length, sym, subst}
use Rattle.std.specs.List.{AllByRecursion}
use Rattle.bpf_cert_format.specs.Views.{EntryView}
use Rattle.bpf_cert_format.specs.Fits.{FitsEntry}
use Rattle.bpf_cert_format.proofs.Refusals.{passed_on}
use Rattle.bpf_cert_format.proofs.writer.write.Goals as goal

pub returns-in_err-put_entries-clause-fitting : goal.returns-in_err-put_entries-clause-fitting
returns-in_err-put_entries-clause-fitting c = λ maps few_maps fits.
    let r = c.from_residual-in_err-put_entries in
    let same : c.args.certificate.now.entries ≡ c.entries.result.now = sym c.entries.ensures.is in
    let few = subst (λ (es : List EntryView). length es < 2 ^ 32) same fits.few in
    let all = subst (AllByRecursion (FitsEntry maps)) same fits.entries in
    passed_on r.result c.in_err-put_entries.field-0.0 r.ensures.1 (c.in_err-put_entries.ensures.fitting maps few_maps few all)
