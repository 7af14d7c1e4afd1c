-- The text of refusals.
use Rattle.std.specs.Prelude.{ℕ, ◌++◌, List, codes, decimal}
use Rattle.bpf_rules.specs.Faults.{number_of}
use Rattle.bpf_verifier.specs.declared.refusal.Refusal.{Refusal}

-- the line of a refusal: its number, and the slot
abbrev pub refusal_text : Refusal → List ℕ
refusal_text r = codes "refused " ++ decimal (number_of r.fault) ++ codes " at " ++ decimal r.pc
