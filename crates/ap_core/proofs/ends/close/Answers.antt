use Rattle.std.proofs.Common.{List, ℕ, Option, false, [], ◌∷◌, ◌++◌, ◌∙◌, sym, ap, subst, arith}
use Rattle.mac_frame.specs.Frames.{sent_management}
use Rattle.mac_frame.specs.declared.content.Management.TheVariants as management
use Rattle.ap_model.specs.Changes.{sends}
use Rattle.assoc.specs.Standings.{standing}
use Rattle.ap_model.specs.declared.event.Out.{Out}
use Rattle.ap_model.specs.Readings.{Using}
use Rattle.ap_agreements.specs.Tables.{held_under}
use Rattle.ap_model.specs.Agreements.{delba}
use Rattle.ap_core.specs.Handles.{rules, PassesAll}
use Rattle.ap_core.proofs.EndLaws.{end_of_none, end_of}
use Rattle.ap_core.proofs.ends.close.Goals as goal

pub returns-in-None-clause-step : goal.returns-in-None-clause-step
returns-in-None-clause-step c =
    end_of_none (standing c.args.state.now.link) c.args.state.now.agreements.kept c.args.state.now.agreements.kept c.args.state.now.clock c.args.station c.args.tid (delba (rules c.args.state.now.link.shard c.args.config.now) c.args.station c.args.tid 37 ∷ []) _ c.in-None.ensures c.new.ensures.items

pub pass_all-requires : goal.pass_all-requires
pass_all-requires c =
    let held = ap (λ (o : Option Using). held_under o) (sym c.in-Some.ensures ∙ c.in-Some-remove.ensures.was.0) in
    omega (arith, held, c.held-held.ensures.is, c.in_ok-outs.ensures.exact, c.in_ok-outs.ensures.len)

pub returns-in-Some-remove-clause-step : goal.returns-in-Some-remove-clause-step
returns-in-Some-remove-clause-step c =
    end_of (standing c.args.state.now.link) c.args.state.now.agreements.kept c.remove.new.self.kept c.args.state.now.clock c.args.station c.args.tid (delba (rules c.args.state.now.link.shard c.args.config.now) c.args.station c.args.tid 37 ∷ []) _
    c.in-Some-remove.entry c.pass_all.new.outs.items c.in-Some-remove.ensures.was c.remove.ensures.sets
    (subst (λ (t : List Out). PassesAll c.in-Some-remove.entry t c.pass_all.new.outs.items) c.in_ok-outs.ensures.items c.pass_all.ensures.passes)
    (c.push_reserved.ensures.items
    ∙ ap (λ (x : Out). c.pass_all.new.outs.items ++ x ∷ [])
    (c.send.ensures ∙ ap sends c.delba-delba.ensures
    ∙ ap (λ (b : List ℕ). sends (sent_management c.args.station b (management.Delba (record { initiator = false; tid = c.args.tid }) 37) [])) c.bssid.ensures))
