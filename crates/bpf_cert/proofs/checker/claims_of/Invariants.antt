use Rattle.std.proofs.Common.{◌≡◌, take}
use Rattle.std.specs.Prelude.{map}
use Rattle.std.specs.List.{All}
use Rattle.bpf_absstate.specs.WellFormed.{IsView}
use Rattle.bpf_cert.specs.States.{claim_of}
use Rattle.bpf_cert.proofs.checker.claims_of.Given as goal

abbrev pub invariant-loop-leaf : goal.invariant-loop-leaf
invariant-loop-leaf l = record {
  is : l.claims ≡ map claim_of (take l.leaf-index l.entries);
  whole : All (λ e. IsView e.state) l.claims;
}
