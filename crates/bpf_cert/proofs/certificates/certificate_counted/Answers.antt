use Rattle.std.proofs.lemmas.Result.{err_from_is_err_and}
use Rattle.bpf_cert.specs.Certified.{Unexplored}
use Rattle.bpf_cert.proofs.Uncertified.{all_at_start}
use Rattle.bpf_cert.proofs.certificates.certificate_counted.Goals as goal

pub returns-in_err-finished-clause-refused : goal.returns-in_err-finished-clause-refused
returns-in_err-finished-clause-refused c =
    let p = err_from_is_err_and c.from_residual.result c.from_residual.ensures.1 in
    rw (p.1, p.2) (Unexplored c.explore_counted.ensures.spent (rw c.program-program.ensures.is at c.in_err-finished.ensures.refused) (rw c.program-program.ensures.is at c.in_err-finished.ensures.due))

pub returns-clause-refused : goal.returns-clause-refused
returns-clause-refused c =
    all_at_start c.args.accepted.now.code c.args.limit _ _ c.made-certificate.result (rw c.program-program.ensures.is at c.whole.ensures.is.first) c.made-certificate.ensures.start c.made-certificate.ensures.why
