use Rattle.std.proofs.Common.{◌≤◌, sym, subst}
use Rattle.assoc.specs.Standings.{standing}
use Rattle.ap_model.specs.Stations.{AreAssociated}
use Rattle.ap_core.proofs.Counting.{are_associated, few_associated}
use Rattle.ap_core.proofs.shard.Shard.stations.Goals as goal

pub returns-clause-are : goal.returns-clause-are
returns-clause-are c =
    let link = c.args.self.now.state.link in
    subst (λ n. AreAssociated (standing link) n) (sym c.associated.ensures.is) (are_associated link c.associated.ensures.holds)

pub returns-clause-few : goal.returns-clause-few
returns-clause-few c =
    let link = c.args.self.now.state.link in
    subst (λ n. n ≤ 2007) (sym c.associated.ensures.is) (few_associated link c.associated.ensures.holds)
