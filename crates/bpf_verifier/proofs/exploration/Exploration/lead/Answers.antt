use Rattle.bpf_verifier.proofs.exploration.Exploration.lead.Goals as goal

pub end-requires : goal.end-requires
end-requires c =
    let h = c.requires.examined in
    record { examined = (h.0, h.1, rw c.in-Nowhere.is at h.2) }

pub returns-in_ok-unwound-in-Nowhere-clause-stepped : goal.returns-in_ok-unwound-in-Nowhere-clause-stepped
returns-in_ok-unwound-in-Nowhere-clause-stepped c = λ own at found. c.in_ok-unwound-in-Nowhere.ensures.stepped own (rw c.in-Nowhere.is at found)

pub follow-requires : goal.follow-requires
follow-requires c = record { paid = c.requires.examined.1.paid }

pub returns-in_ok-unwound-in-One-clause-stepped : goal.returns-in_ok-unwound-in-One-clause-stepped
returns-in_ok-unwound-in-One-clause-stepped c = λ own at found. c.in_ok-unwound-in-One.ensures.stepped c.args.program.now own at (rw c.in-One.is at found)

pub returns-in_ok-unwound-in-Two-clause-stepped : goal.returns-in_ok-unwound-in-Two-clause-stepped
returns-in_ok-unwound-in-Two-clause-stepped c = λ own at found. c.in_ok-unwound-in-Two.ensures.stepped c.args.program.now own at (rw c.in-Two.is at found)
