use Rattle.bpf_cert_format.proofs.Refusals.{passed_on}
use Rattle.bpf_cert_format.proofs.writer.put_frames.Goals as goal

pub returns-in_err-put_frame_list-clause-fitting : goal.returns-in_err-put_frame_list-clause-fitting
returns-in_err-put_frame_list-clause-fitting c = λ maps count few_maps few_frames in_all all.
    let r = c.from_residual-in_err-put_frame_list in
    passed_on r.result c.in_err-put_frame_list.field-0.0 r.ensures.1 (c.in_err-put_frame_list.ensures.fitting maps count few_maps few_frames all)
