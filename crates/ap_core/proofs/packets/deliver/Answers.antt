use Rattle.std.proofs.Common.{◌≡◌, true, false, sym, ◌∙◌, ap, subst}
use Rattle.assoc.specs.Standings.{standing}
use Rattle.hooks.specs.Verdicts.{data_verdict}
use Rattle.hooks.specs.declared.verdicts.DataVerdict.TheVariants.{Pass, Discard}
use Rattle.ap_model.specs.Agreements.{let_through}
use Rattle.ap_model.specs.Drops.{discards}
use Rattle.ap_core.specs.DataFrames.{packet}
use Rattle.ap_core.proofs.Handling.{asking_told}
use Rattle.ap_core.proofs.DataLaws.{judged, told}
use Rattle.ap_core.proofs.packets.deliver.Goals as goal

pub returns-in-Pass-clause-step : goal.returns-in-Pass-clause-step
returns-in-Pass-clause-step g c =
    let passes : data_verdict c.judge-verdict.result ≡ Pass c.in-Pass.mark = sym c.data_verdict.ensures ∙ c.in-Pass.is in
    asking_told g.J.Judge.gives _ _ _ _ _ c.judge-verdict.result false c.judge-verdict.ensures
    (judged (standing c.args.state.now.link) (packet c.args.came) c.args.start _ _ c.judge-verdict.result _ c.requires.came.spelled (c.context_of-context.ensures ∙ told c.args.came c.args.start (standing c.args.state.now.link) c.requires.came)
    (subst (λ v. c.with_out.result.items ≡ let_through c.args.came.frame.sender (packet c.args.came) v) (sym passes) (let s = c.sender-source.ensures in let b = c.new.ensures in let t = c.into_tail.ensures in let e = c.with_out.ensures in cc)))
    (ap discards (sym passes))

pub returns-in-Discard-clause-step : goal.returns-in-Discard-clause-step
returns-in-Discard-clause-step g c =
    let drops : data_verdict c.judge-verdict.result ≡ Discard = sym c.data_verdict.ensures ∙ c.in-Discard.is in
    asking_told g.J.Judge.gives _ _ _ _ _ c.judge-verdict.result true c.judge-verdict.ensures
    (judged (standing c.args.state.now.link) (packet c.args.came) c.args.start _ _ c.judge-verdict.result _ c.requires.came.spelled (c.context_of-context.ensures ∙ told c.args.came c.args.start (standing c.args.state.now.link) c.requires.came)
    (subst (λ v. c.in_ok-outs.outs.items ≡ let_through c.args.came.frame.sender (packet c.args.came) v) (sym drops) c.in_ok-outs.ensures.items))
    (ap discards (sym drops))
