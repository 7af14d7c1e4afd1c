use Rattle.bpf_cert.proofs.Uncertified.{amply}
use Rattle.bpf_cert.proofs.certificates.certificate_within.Goals as goal

pub returns-clause-refused : goal.returns-clause-refused
returns-clause-refused c = amply c.args.accepted.now.code c.args.limit _ _ c.alone-limits.ensures.valid (rw (c.within-work.ensures.is, c.units.ensures.is, c.alone-limits.ensures.is) at c.certificate_counted.ensures.refused)
