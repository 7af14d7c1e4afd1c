use Rattle.std.proofs.Common.{refl}
use Rattle.assoc.specs.Standings.{standing}
use Rattle.ap_core.specs.DataFrames.{packet}
use Rattle.ap_core.proofs.Handling.{told_by}
use Rattle.ap_core.proofs.DataLaws.{alone_from}
use Rattle.ap_core.proofs.packets.on_data_alone.Goals as goal

pub pass_alone-requires-clause-inside : goal.pass_alone-requires-clause-inside
pass_alone-requires-clause-inside g c = c.requires.under.stands.place.inside

pub pass_alone-requires-clause-alone : goal.pass_alone-requires-clause-alone
pass_alone-requires-clause-alone g c = λ d. rw (c.requires.under.stands.is d) c.requires.under.is

pub returns-clause-step : goal.returns-clause-step
returns-clause-step g c =
    let under = c.requires.under in
    told_by
    (λ asked j.
    alone_from (standing c.args.state.now.link) c.args.state.now.agreements.kept c.pass_alone.new.self.kept c.args.state.now.clock (packet c.args.came)
    c.args.came.frame.sender refl c.args.under.tid under.tid under.kept.using c.args.under.start under.stands.agreed under.is under.starts asked c.in_ok-outcome.outcome.outs.items j
    (c.pass_alone.ensures c.args.came.frame.sender c.args.under.tid under.stands.place))
    c.in_ok-outcome.ensures.step
