use Rattle.std.proofs.Common.{rules, Some, sym, ap, ◌∙◌}
use Rattle.std_alloc.specs.Box.{with_value}
use Rattle.apd_c.specs.declared.handle.Content.{Content}
use Rattle.apd_c.specs.declared.handle.Content.TheVariants as content
use Rattle.apd_c.specs.declared.maps.Maps.{Maps}
use Rattle.apd_c.proofs.words.access_in.Goals as goal

pub returns-in-Maps : goal.returns-in-Maps
returns-in-Maps c =
    record {
      made = λ done. (c.deref_mut.result.now, c.access.new.maps, search rules, search rules, c.access.ensures.made done);
      kept = λ bad.
          ap (λ (x : Content). Some x)
          (ap (λ (m : Maps). content.Maps (with_value c.in-Maps.maps m)) (c.access.ensures.refused bad ∙ c.deref_mut.ensures.value) ∙ sym c.in-Maps.is);
      number = search rules;
    }
