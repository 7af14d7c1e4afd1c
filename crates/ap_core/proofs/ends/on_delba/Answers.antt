use Rattle.std.proofs.Common.{List, [], Option, sym, ap, subst, arith}
use Rattle.std.proofs.lemmas.List.{append-nil}
use Rattle.assoc.specs.Standings.{standing}
use Rattle.ap_model.specs.declared.event.Out.{Out}
use Rattle.ap_model.specs.Readings.{Using}
use Rattle.ap_agreements.specs.Tables.{held_under}
use Rattle.ap_core.specs.Handles.{PassesAll}
use Rattle.ap_core.proofs.EndLaws.{end_of_nothing, end_of}
use Rattle.ap_core.proofs.ends.on_delba.Goals as goal

pub pass_all-requires : goal.pass_all-requires
pass_all-requires c =
    let held = ap (λ (o : Option Using). held_under o) c.in-Some.ensures.was.0 in
    omega (arith, held, c.held-held.ensures.is, c.in_ok-outs.ensures.exact, c.in_ok-outs.ensures.len)

pub returns-in-None-clause-step : goal.returns-in-None-clause-step
returns-in-None-clause-step c =
    end_of_nothing (standing c.args.state.now.link) c.args.state.now.agreements.kept c.remove.new.self.kept c.args.state.now.clock c.args.station c.args.tid [] _ c.in-None.ensures.was c.in_ok-outs.ensures.items c.remove.ensures.sets

pub returns-in-Some-clause-step : goal.returns-in-Some-clause-step
returns-in-Some-clause-step c =
    end_of (standing c.args.state.now.link) c.args.state.now.agreements.kept c.remove.new.self.kept c.args.state.now.clock c.args.station c.args.tid [] _
    c.in-Some.entry c.pass_all.new.outs.items c.in-Some.ensures.was c.remove.ensures.sets
    (subst (λ (t : List Out). PassesAll c.in-Some.entry t c.pass_all.new.outs.items) c.in_ok-outs.ensures.items c.pass_all.ensures.passes)
    (sym (append-nil c.pass_all.new.outs.items))
