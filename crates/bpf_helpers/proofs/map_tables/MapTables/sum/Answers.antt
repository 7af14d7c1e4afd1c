use Rattle.std.proofs.Common.{◌≡◌, ℕ, List, subst, ap, sym, ◌∙◌}
use Rattle.std.specs.List.{All}
use Rattle.shared_maps.specs.Tables.{Map}
use Rattle.bpf_helpers.specs.Tables.{Tables}
use Rattle.bpf_helpers.specs.Sums.{HaveWord, Loads}
use Rattle.bpf_helpers.proofs.Fitting.{have_word, still_seated}
use Rattle.bpf_helpers.proofs.map_tables.MapTables.sum.Goals as goal

pub sum_of_word-requires : goal.sum_of_word-requires
sum_of_word-requires c =
    let inside : Tables = record { shape = c.self.inside.shape; tables = c.self.inside.tables.items } in
    let is : inside ≡ c.args.self.now = c.self.view_is in
    record {
      seated = subst (λ (ts : List Map). HaveWord c.args.word ts c.args.seats.now) (sym (c.as_slice.ensures.value ∙ ap (λ (m : Tables). m.tables) is))
          (have_word c.args.self.now.shape c.args.word c.requires.inside c.args.self.now.tables c.args.seats.now
          (subst (λ (m : Tables). All (λ (t : Map). t.shape ≡ m.shape) m.tables) is c.self.invariant.each) c.requires.seated);
    }

pub returns-clause-seated : goal.returns-clause-seated
returns-clause-seated c =
    let loaded = c.sum_of_word.ensures.is in
    let inside : Tables = record { shape = c.self.inside.shape; tables = c.self.inside.tables.items } in
    let is : inside ≡ c.args.self.now = c.self.view_is in
    still_seated c.args.word c.args.self.now.tables c.args.seats.now loaded.0 c.sum_of_word.new.seats
    (subst (λ (ts : List Map). Loads c.args.word ts c.args.seats.now loaded.0 c.sum_of_word.new.seats) (c.as_slice.ensures.value ∙ ap (λ (m : Tables). m.tables) is) loaded.1) c.requires.seated
