-- Claims as values, or by their entries.
use Rattle.bpf_cert_format.specs.Unread.{entry_from}
use Rattle.bpf_cert.specs.declared.claim.Claim.{Claim}
use Rattle.bpf_cert.specs.declared.held.Form.{Form}
use Rattle.bpf_cert.specs.declared.held.Form.TheVariants.{Built, Spelled}
use Rattle.bpf_cert.specs.States.{claim_of}

-- the claim itself, or that of the entry at its position
abbrev pub claim_in : Form → Claim
claim_in (Built claim) = claim
claim_in (Spelled s) = claim_of (entry_from s.unread)
