use Rattle.std.proofs.Common.{◌∙◌}
use Rattle.bpf_helpers.proofs.Keeping.{shapes_kept}
use Rattle.ap_live.specs.Tokens.{IsWorker}
use Rattle.ap_live.proofs.Keeping.{worker_kept}
use Rattle.ap_live.proofs.Newcomers.{newcomer_counts, newcomer_parts}
use Rattle.apd_run.proofs.Deciding.{new_unwritten}
use Rattle.apd_run.proofs.OneByOne.{all_still}
use Rattle.apd_run.proofs.Sums.{given_pages}
use Rattle.apd_run.proofs.access.hands.give_rights.Goals as goal

pub returns-in_default-clause-maps : goal.returns-in_default-clause-maps
returns-in_default-clause-maps g c = shapes_kept _ _ c.operator.ensures.keeps.tables ∙ c.hire.ensures.maps

pub returns-clause-maps : goal.returns-clause-maps
returns-clause-maps g c = shapes_kept _ _ c.operator.ensures.keeps.tables ∙ c.hire.ensures.maps

pub returns-clause-operator : goal.returns-clause-operator
returns-clause-operator g c =
    let stock = c.hire.new.left.shards in
    let mine = c.in-Ok.operator.shards in
    let new = c.in-Ok.ensures.new in
    record { own = c.in-Ok.ensures.own; unput = c.in-Ok.ensures.unput; parts = newcomer_parts stock mine new; nothing = newcomer_counts stock mine new; unwritten = new_unwritten stock mine new }

pub returns-clause-own : goal.returns-clause-own
returns-clause-own g c =
    let a = c.hire.new.ap in
    let b = c.operator.new.self in
    all_still (IsWorker a) (IsWorker b) c.in_ok-workers.workers.items (λ w. worker_kept a b w c.operator.ensures.keeps) c.in_ok-workers.ensures.own

pub returns-clause-pages : goal.returns-clause-pages
returns-clause-pages g c = given_pages _ _ c.in-Ok.ensures.given.shards ∙ c.in_ok-workers.ensures.pages
