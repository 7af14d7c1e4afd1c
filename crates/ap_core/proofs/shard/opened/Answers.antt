use Rattle.ap_agreements.specs.Tables.{agreement_in}
use Rattle.ap_core.proofs.shard.opened.Goals as goal

pub returns-clause-opening : goal.returns-clause-opening
returns-clause-opening c = λ i. record { standing = λ a. c.new.ensures.unknown a i; agreement = agreement_in (c.new-2.ensures i); clock = 0 }
