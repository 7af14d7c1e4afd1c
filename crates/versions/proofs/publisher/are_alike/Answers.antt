use Rattle.std.proofs.Common.{rules}
use Rattle.std.proofs.lemmas.Slice.Eq.{slice_eq-Decides}
use Rattle.versions.proofs.publisher.are_alike.Goals as goal

pub returns : goal.returns
returns c = slice_eq-Decides (λ a b. (λ e. search rules, λ e. search rules)) _ _ _ c.eq.ensures
