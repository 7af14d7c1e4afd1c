use Rattle.std.proofs.Common.{rules, arith}
use Rattle.ap_core.proofs.AccessLaws.{eight_fresh, fresh_copy, fresh_in_place}
use Rattle.ap_core.proofs.access_point.new_shards.Goals as goal

pub returns-clause-fresh : goal.returns-clause-fresh
returns-clause-fresh c =
    let config = c.args.config.now in
    let same = c.in_ok-first.ensures in
    eight_fresh config _ _ _ _ _ _ _ _
    (fresh_copy config _ _ 0 _ same (omega arith) (search rules) c.with_config.ensures.fresh)
    (fresh_copy config _ _ 1 _ same (omega arith) (search rules) c.with_config-2.ensures.fresh)
    (fresh_copy config _ _ 2 _ same (omega arith) (search rules) c.with_config-3.ensures.fresh)
    (fresh_copy config _ _ 3 _ same (omega arith) (search rules) c.with_config-4.ensures.fresh)
    (fresh_copy config _ _ 4 _ same (omega arith) (search rules) c.with_config-5.ensures.fresh)
    (fresh_copy config _ _ 5 _ same (omega arith) (search rules) c.with_config-6.ensures.fresh)
    (fresh_copy config _ _ 6 _ same (omega arith) (search rules) c.with_config-7.ensures.fresh)
    (fresh_copy config _ _ 7 _ same (omega arith) (search rules) c.with_config-8.ensures.fresh)

pub returns-clause-place : goal.returns-clause-place
returns-clause-place c = fresh_in_place c.args.config.now _ (returns-clause-fresh c)
