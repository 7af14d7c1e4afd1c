use Rattle.std.proofs.Common.{IsSome, [], ◌∷◌, refl, sym, ◌∙◌, subst}
use Rattle.ap_model.specs.declared.event.Event.TheVariants as event
use Rattle.ap_model.specs.Steps.{deauthentication, kicked}
use Rattle.assoc.specs.Standings.{Standing}
use Rattle.ap_core.specs.Handles.{rules}
use Rattle.ap_core.proofs.Pasts.{went_on}
use Rattle.ap_core.proofs.shard.Shard.on_kick.Goals as goal

pub invariant_of-self : goal.invariant_of-self
invariant_of-self c =
    let was = c.args.self.now in
    let r = rules was.state.link.shard was.config in
    record {
      history =
          went_on was.state c.deauthenticate.new.state was.config c.deauthenticate.ensures.shard was.history (event.Kick c.args.station c.args.reason) []
          (deauthentication r c.args.station c.args.reason ∷ [])
          (kicked (subst (λ (s : Standing). IsSome s) (sym (sym c.standing.ensures ∙ c.in-Some.is)) refl) (record { silent = refl; is = refl }) c.deauthenticate.ensures.moves);
    }
