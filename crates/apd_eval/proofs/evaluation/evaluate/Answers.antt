use Rattle.std.proofs.Common.{rules, ◌≡◌, ◌∙◌, [], List, refl, sym, subst, ap}
use Rattle.bpf_helpers.specs.Hooked.{IsFitting}
use Rattle.bpf_helpers.specs.Tables.{Tables}
use Rattle.apd_eval.specs.Metered.{Metered}
use Rattle.apd_eval.proofs.Rows.{is_alone, are_taken}
use Rattle.apd_eval.proofs.evaluation.evaluate.Goals as goal

pub follow-requires : goal.follow-requires
follow-requires g c =
    let alone = is_alone _ c.args.accepted c.hook-hook.ensures.is c.in_ok-programs.ensures.programs in
    let fitting = subst (λ (m : Metered). IsFitting c.maps.result.now 0 m.held.seats) (sym c.new-meter.ensures.is)
    (subst (λ (maps : List Tables). IsFitting maps 0 c.in_ok-programs.field-0.state.seats) (sym c.maps.ensures.is) c.in_ok-programs.field-0.fitting) in
    λ k. ((refl, tt), (alone, (fitting, c.requires.fresh)))

pub returns : goal.returns
returns g c =
    let drawn = ap (λ (m : Metered). m.held.draw) c.new-meter.ensures.is ∙ c.in_ok-programs.ensures.draw in
    let from : c.new-meter.result.counts ≡ [] = search rules in
    record {
      rows = are_taken g.S.TakesRows.takes c.args.accepted c.args.replay.draw _ _ _ _ _ _ _ c.hook-hook.ensures.is c.in_ok-programs.ensures.programs drawn from c.in_ok-follow.ensures.rows;
    }
