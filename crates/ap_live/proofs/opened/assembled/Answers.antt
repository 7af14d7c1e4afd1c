use Rattle.std.proofs.Common.{◌≡◌, [], ap, refl, sym, ◌∙◌}
use Rattle.versions.specs.Lists.{Beginning, Readers, newcomer}
use Rattle.ap_live.proofs.opened.assembled.Goals as goal

pub returns : goal.returns
returns g c =
    let published : Beginning = c.args.list.0 in
    let none : Beginning = record { list = published.list; shapes = published.shapes; loads = [] } in
    let unloaded : published ≡ none = λ i. record { list = published.list; shapes = published.shapes; loads = c.requires.empty i } in
    record {
      queues = c.requires.places.count;
      maps = c.requires.places.maps;
      first_draw = refl;
      list = unloaded ∙ sym (c.entrance.ensures.is ∙ ap newcomer c.requires.readers);
      no_loads = c.requires.empty;
      rest = record { passes = c.requires.places.passes_are; list = sym (ap (λ (b : Beginning). b.list) c.entrance.ensures.is) };
      unmade = c.requires.places.unmade;
      readers = ap (λ (r : Readers). r.left) c.requires.readers;
      parts = refl;
      shards = c.requires.tokens;
      pages = c.requires.pages;
    }
