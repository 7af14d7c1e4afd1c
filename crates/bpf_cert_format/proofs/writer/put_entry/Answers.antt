use Rattle.std.proofs.Common.{◌≡◌, ◌≤◌, List, length, arith, sym, subst}
use Rattle.std.specs.List.{AllByRecursion}
use Rattle.bpf_cert_format.specs.declared.frame.Frame.{Frame}
use Rattle.bpf_cert_format.specs.Fits.{FitsFrame}
use Rattle.bpf_cert_format.proofs.Refusals.{passed_on}
use Rattle.bpf_cert_format.proofs.writer.put_entry.Goals as goal

pub returns-in_err-put_frames-clause-fitting : goal.returns-in_err-put_frames-clause-fitting
returns-in_err-put_frames-clause-fitting c = λ maps few_maps fits.
    let r = c.from_residual-in_err-put_frames in
    let count = length c.args.entry.now.frames in
    let same : c.args.entry.now.frames ≡ c.frames.result.now = sym c.frames.ensures.is in
    let in_all : length c.frames.result.now ≤ count = subst (λ (fs : List Frame). length fs ≤ count) same (omega arith) in
    let all = subst (AllByRecursion (FitsFrame maps count)) same fits.frames in
    passed_on r.result c.in_err-put_frames.field-0.0 r.ensures.1 (c.in_err-put_frames.ensures.fitting maps count few_maps fits.few in_all all)
