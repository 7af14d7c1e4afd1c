use Rattle.std.proofs.Common.{rules, ◌≡◌, ◌∙◌, [], length, refl, sym, ap}
use Rattle.std.proofs.lemmas.List.{with_items_is}
use Rattle.apd_eval.specs.Metered.{Metered}
use Rattle.apd_eval.proofs.Counting.{uncounted}
use Rattle.apd_eval.proofs.Metering.{empty_is, tallied_by_state, keeps_state, as_long, fits, moved}
use Rattle.apd_eval.proofs.meter.Meter.run.Goals as goal

pub returns-then-is_empty-clause-run : goal.returns-then-is_empty-clause-run
returns-then-is_empty-clause-run c =
    let none : c.self.inside.counts.items ≡ [] = sym c.as_slice.ensures.value ∙ empty_is c.as_slice.result.now (sym c.is_empty.ensures ∙ c.if-is_empty.true) in
    let now = sym c.self.view_is in
    moved _ _ _ _ _ _ _ _ _ _ (ap (λ (m : Metered). m.held) now) (ap (λ (m : Metered). m.counts) now ∙ none) none (uncounted _ _ _ _ _ c.run_hook.ensures.run)

pub shape_of-self-inside : goal.shape_of-self-inside
shape_of-self-inside c = sym (keeps_state _ _ c.run_counted.new.port _ _ _ c.run_counted.ensures.run)

pub returns-clause-run : goal.returns-clause-run
returns-clause-run c =
    let now = sym c.self.view_is in
    let made = tallied_by_state _ _ c.run_counted.new.port _ _ c.run_counted.result c.run_counted.ensures.run c.run_counted.new.port.state.now (λ same. refl) in
    let long : length c.run_counted.new.counts ≡ c.self.inside.counts.len = as_long _ _ _ _ _ _ _ c.run_counted.ensures.run ∙ c.as_mut_slice.ensures.len in
    moved _ _ _ _ _ _ _ _ _ _ (ap (λ (m : Metered). m.held) now) (ap (λ (m : Metered). m.counts) now ∙ sym c.as_mut_slice.ensures.value) (with_items_is c.self.inside.counts c.run_counted.new.counts long) made

pub returns-clause-fitting : goal.returns-clause-fitting
returns-clause-fitting c = fits _ _ c.run_counted.new.port _ _ _ c.run_counted.ensures.run
