use Rattle.std.proofs.Common.{◌≡◌, ℕ, None, arith, ◌∙◌, sym, subst, Option, List, replicate, slice_index_or, ⊎_elim}
use Rattle.std.proofs.lemmas.Bool.{cases_lt}
use Rattle.std.proofs.lemmas.List.{get_or_past, get_or-replicate, length-replicate}
use Rattle.std.proofs.lemmas.Grind.{common_steps}
use Rattle.std.specs.HashMap.{get}
use Rattle.assoc.specs.Standings.{same_address}
use Rattle.assoc.proofs.link.Link.new.Goals as goal

pub invariant_of-result : goal.invariant_of-result
invariant_of-result c =
    let none : (a : List ℕ) → get same_address c.new.result a ≡ None = λ a. grind (arith, common_steps) in
    let empty : (k : ℕ) → slice_index_or c.none.result k None ≡ None =
    λ k. subst (λ h. slice_index_or h k None ≡ None) (sym c.none.ensures)
    (⊎_elim (λ lt. get_or-replicate 251 k None None lt)
    (λ out. get_or_past (replicate 251 None) k None (let l = length-replicate {A = Option (List ℕ)} 251 None in omega (arith, l)))
    (cases_lt k 251))
    in
    record {
      shard = c.requires;
      few = (let l = c.new.ensures.len in omega arith);
      own = λ a n e. absurd (let w = sym (none a) ∙ e in cc w);
      holds = λ a n e. absurd (let w = sym (none a) ∙ e in cc w);
      held = λ k a e. absurd (let w = sym (empty k) ∙ e in cc w);
    }
