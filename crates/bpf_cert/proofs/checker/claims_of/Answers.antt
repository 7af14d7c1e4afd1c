use Rattle.std.proofs.Common.{refl}
use Rattle.bpf_cert.specs.States.{claim_of}
use Rattle.bpf_cert.proofs.Entries.{claims_more, whole_more}
use Rattle.bpf_cert.proofs.checker.claims_of.Goals as goal

pub loop-leaf-preserved : goal.loop-leaf-preserved
loop-leaf-preserved c = let x = claim_of c.leaf-item.result in record {
  is = claims_more c.args.entries.now c.loop-leaf.leaf-index c.leaf-item.result c.loop-leaf.claims c.add_claim.new.claims x c.loop-leaf-test.true c.leaf-item.is refl c.in_ok-add_claim.ensures.is c.loop-leaf.invariant.is;
  whole = whole_more c.loop-leaf.claims c.add_claim.new.claims x c.in_ok-add_claim.ensures.is c.loop-leaf.invariant.whole c.in_ok-add_claim.ensures.whole;
}
