use Rattle.bpf_cert.proofs.checker.check.Goals as goal

pub returns-in-Refused-clause-only : goal.returns-in-Refused-clause-only
returns-in-Refused-clause-only c = λ b v. rw c.in-Refused.is at (c.in-Err.ensures.only b v)
