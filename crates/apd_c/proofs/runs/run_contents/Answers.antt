use Rattle.std.proofs.Common.{rules, sym, ap, ◌∙◌}
use Rattle.std_alloc.specs.Box.{with_value}
use Rattle.apd_c.specs.declared.handle.Content.TheVariants as content
use Rattle.apd_c.specs.declared.maps.Maps.{Maps}
use Rattle.apd_c.proofs.runs.run_contents.Goals as goal

pub returns-in-Maps-clause-run : goal.returns-in-Maps-clause-run
returns-in-Maps-clause-run c = λ done.
    (c.deref.result.now, search rules, (c.deref_mut.result.now, c.run_on.new.maps, search rules, search rules, c.run_on.ensures.run done))

pub returns-in-Maps-clause-refused : goal.returns-in-Maps-clause-refused
returns-in-Maps-clause-refused c = λ bad.
    ap (λ (m : Maps). content.Maps (with_value c.in-Maps.maps m)) (c.run_on.ensures.refused bad ∙ c.deref_mut.ensures.value) ∙ sym c.in-Maps.is
