use Rattle.std.proofs.Common.{◌≡◌, ℕ, Some, None, List, [], ◌∷◌, ◌++◌, length, refl, ap, subst, ◌∙◌, arith}
use Rattle.std.specs.Prelude.{MatchOption}
use Rattle.ap_model.specs.declared.event.Out.{Out}
use Rattle.ap_agreements.specs.Tables.{key_of, agreement_in, Sets}
use Rattle.ap_core.specs.Handles.{PassesAll}
use Rattle.ap_core.proofs.EndLaws.{replaced_first, held_there}
use Rattle.ap_core.proofs.setups.grant.Goals as goal

pub pass_replaced-requires : goal.pass_replaced-requires
pass_replaced-requires c =
    let ks = c.args.state.now.agreements.kept in
    let key : key_of c.opened-opened.result ≡ (c.args.request.now.came.now.frame.sender, c.args.request.now.parameters.tid) = c.opened-opened.ensures.key ∙ c.requires.key in
    let held = held_there ks c.args.request.now.came.now.frame.sender c.args.request.now.parameters.tid c.put-replaced.result
    (subst (λ (p : List ℕ × ℕ). MatchOption c.put-replaced.result (agreement_in ks p.0 p.1 ≡ None) (λ k. (agreement_in ks p.0 p.1 ≡ Some k.using) × (key_of k ≡ p))) key
    c.put-replaced.ensures.was) in
    omega (arith, held, c.requires.outs, ap length c.requires.empty, c.args.room.outs.ok.0)

pub returns-clause-step : goal.returns-clause-step
returns-clause-step c =
    let ks = c.args.state.now.agreements.kept in
    let key : key_of c.opened-opened.result ≡ (c.args.request.now.came.now.frame.sender, c.args.request.now.parameters.tid) = c.opened-opened.ensures.key ∙ c.requires.key in
    record {
      first = c.pass_replaced.new.outs.items;
      passes = replaced_first ks c.args.request.now.came.now.frame.sender c.args.request.now.parameters.tid c.put-replaced.result c.pass_replaced.new.outs.items
          (subst (λ (p : List ℕ × ℕ). MatchOption c.put-replaced.result (agreement_in ks p.0 p.1 ≡ None) (λ k. (agreement_in ks p.0 p.1 ≡ Some k.using) × (key_of k ≡ p))) key
          c.put-replaced.ensures.was)
          (subst (λ (t : List Out). MatchOption c.put-replaced.result (c.pass_replaced.new.outs.items ≡ t) (λ k. PassesAll k t c.pass_replaced.new.outs.items)) c.requires.empty
          c.pass_replaced.ensures.passes);
      is =
          c.push_reserved.ensures.items
          ∙ ap (λ (x : Out). c.pass_replaced.new.outs.items ++ x ∷ []) (c.send.ensures ∙ c.answer-answer.ensures.is c.args.state.now.link.shard);
      using = c.opened-opened.result.using;
      opens = c.opened-opened.ensures.opens;
      agrees = record {
        standing = λ q. refl;
        agreement = subst (λ (p : List ℕ × ℕ). Sets ks p.0 p.1 (Some c.opened-opened.result.using) c.put-replaced.new.self.kept) key c.put-replaced.ensures.sets;
        clock = refl;
      };
    }
